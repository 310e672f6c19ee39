-- Laws of the program.
pub mod Writing
pub mod Limits
pub mod Reading
