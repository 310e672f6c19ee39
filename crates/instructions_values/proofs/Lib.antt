-- Laws of the crate.
pub mod Carrying
pub mod Taking
pub mod Few
pub mod Elementwise
pub mod Vectors
pub mod Indexing
pub mod Origin
