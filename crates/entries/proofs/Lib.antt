-- Laws of cells and the entries that are laid in them.
pub mod Rows
pub mod Laying
pub mod Getting
pub mod Slots
pub mod Standing
