-- Laws that the proofs of this crate use, over plain lists and numbers.
pub mod ItemLaws
pub mod TraitParts
pub mod Three
pub mod Slashes
pub mod Marking
pub mod LineTexts
pub mod Staying
pub mod NoteLaws
pub mod BodyLaws
pub mod ConceptLaws
pub mod SheetLaws
