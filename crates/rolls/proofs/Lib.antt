-- Laws that the proofs of this crate use, over plain lists and numbers; and what its functions promise, taken together.
pub mod Passing
pub mod RecordLaws
pub mod FindLaws
pub mod ReadLaws
pub mod ListLaws
pub mod AddLaws
pub mod OneAnswer
pub mod DemandThree
