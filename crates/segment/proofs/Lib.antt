-- Laws of the crate.
pub mod Copies
pub mod Fields
pub mod Parts
pub mod Runs
pub mod Words
