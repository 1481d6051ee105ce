-- Laws that the proofs of this crate use, over plain lists and numbers.
pub mod Putting
pub mod Sequences
pub mod Spelling
pub mod Plainly
pub mod Collapsing
pub mod Ticks
pub mod Parts
pub mod ByForm
pub mod Keys
