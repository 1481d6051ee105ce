-- What the functions of this crate answer, over the definitions of the paper.
pub mod Brackets
pub mod Labels
pub mod Entering
