-- What the contracts of the trials' program cite.
pub mod Hex
pub mod Lines
pub mod Words
