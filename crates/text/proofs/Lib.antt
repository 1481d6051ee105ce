-- Laws of lists of bytes at a place: the byte that stands there, and what is left behind it.
pub mod Places
pub mod Answers
pub mod Compared
pub mod Either
pub mod HexDigits
pub mod Steps
pub mod Checks
pub mod Stretch
pub mod Deepening
