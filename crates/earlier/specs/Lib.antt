-- What the functions of this crate answer, over the entries of a marker's traits.
pub mod Earlier
