-- What the contracts of the crate cite besides the manual.
pub mod Answers
pub mod Parts
