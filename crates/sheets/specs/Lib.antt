-- What the functions of this crate answer and write, over the definitions of the paper.
pub mod Traits
pub mod Opening
pub mod Concepts
pub mod Sheets
pub mod Promises
