-- Laws that the proofs of this crate and of its users apply, over plain lists and numbers.
pub mod Naming
pub mod Ways
pub mod Listing
