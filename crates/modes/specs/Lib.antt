-- What the functions of this crate answer, over the definitions of the paper.
pub mod Table
pub mod Promises
pub mod Index
