-- Laws of the trials' own form.
pub mod Spelling
pub mod Told
