-- The laws that the proofs of the program apply.
pub mod Told
