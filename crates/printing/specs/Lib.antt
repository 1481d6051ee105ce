-- What the functions of this crate leave, over the definitions of the paper.
pub mod Standing
pub mod Marking
pub mod Wholes
pub mod Texts
pub mod Walking
