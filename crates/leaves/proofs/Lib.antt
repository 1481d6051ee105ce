-- Laws of reading a value that holds no items at a place, over the definitions of the paper.
pub mod Runs
pub mod Showing
pub mod Forms
pub mod HexDigits
pub mod Escaping
pub mod Quotes
pub mod Plainly
pub mod WordEnds
pub mod Integers
pub mod NumberForms
pub mod Groups
pub mod Ranges
pub mod IriParts
pub mod FirstBytes
pub mod LeafReads
