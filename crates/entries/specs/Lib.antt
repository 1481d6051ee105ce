-- What the functions of this crate write, over the definitions of the paper.
pub mod Laid
