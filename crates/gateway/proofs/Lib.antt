-- Laws that the proofs of this crate use, over plain lists and numbers.
pub mod Answering
pub mod RollAnswers
pub mod OneAnswer
