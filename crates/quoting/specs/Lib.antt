-- What the functions of this crate leave, over the definitions of the paper.
pub mod Page
pub mod Spacing
pub mod Ticks
pub mod Leaves
