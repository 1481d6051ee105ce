-- Laws that the proofs of this crate use, over plain lists and numbers.
pub mod WriteLaws
pub mod OneAnswer
pub mod DemandTwo
