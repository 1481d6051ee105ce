-- What the functions of this crate answer, over the definitions of the paper.
pub mod Shown
pub mod Kinds
pub mod Plain
