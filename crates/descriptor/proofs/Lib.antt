-- Laws of the crate.
pub mod Truth
pub mod Scalars
pub mod Inverse
pub mod Arrays
pub mod Computed
