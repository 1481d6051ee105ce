-- Laws that the proofs of this crate use, over plain lists and numbers.
pub mod Slots
pub mod Lengths
pub mod NameIndex
pub mod TraitLaws
pub mod TraitNames
pub mod TraitRuns
pub mod Marked
pub mod OpeningLaws
pub mod ConceptLaws
pub mod AnnotatedLaws
pub mod BlockLaws
pub mod Bodies
pub mod PieceLaws
pub mod LineStarts
pub mod SheetLaws
pub mod Views
pub mod OneAnswer
