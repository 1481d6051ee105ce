-- What the functions of this crate answer, over the definitions of the paper.
pub mod Parts
pub mod Numbers
