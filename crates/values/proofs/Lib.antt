-- Laws of reading and entering values of every kind at a place, over the definitions of the paper.
pub mod Openings
pub mod BareNames
pub mod KeyWords
pub mod KeyLaws
pub mod LabelReads
pub mod LabelLaws
pub mod BracketLaws
pub mod ItemsFound
pub mod EnterLaws
pub mod EnterTurns
