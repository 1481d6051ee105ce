-- What the functions of this crate answer and write, over the definitions of the paper.
pub mod Boundaries
pub mod Records
pub mod Listing
pub mod Adding
pub mod Promises
