-- Laws of the mode table at its places.
pub mod Answered
pub mod Walk
pub mod Numbers
pub mod Chains
pub mod Named
pub mod Sections
pub mod Laid
pub mod Tables
pub mod Lookup
pub mod OneAnswer
