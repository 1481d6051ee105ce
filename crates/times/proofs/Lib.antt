-- Laws of times over plain lists.
pub mod Both
pub mod Splits
pub mod Digits
pub mod Calendar
pub mod Zones
pub mod Spans
pub mod Told
pub mod Braces
