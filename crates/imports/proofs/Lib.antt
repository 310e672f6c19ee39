-- Laws of the crate.
pub mod Numbers
pub mod Several
pub mod Ends
pub mod Parsing
pub mod Files
pub mod Standing
pub mod Encodings
pub mod ReadBack
pub mod OneEncoding
pub mod Theorem
pub mod Bounds
pub mod Writing
