-- Laws of the crate.
pub mod Numbers
pub mod Apart
