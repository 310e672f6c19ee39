-- Laws of the crate.
pub mod Stacking
pub mod Variables
pub mod Pushing
pub mod Vectors
pub mod Assigning
pub mod Indexing
pub mod Storing
