-- Laws of the crate: the manual's plans by the ways that the code goes.
pub mod Jumping
pub mod Leaving
pub mod Calling
