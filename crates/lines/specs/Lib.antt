-- What the functions of this crate answer and write, over the definitions of the paper.
pub mod Parts
pub mod Endings
