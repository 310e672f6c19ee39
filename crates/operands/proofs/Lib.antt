-- Laws of the crate.
pub mod Seen
pub mod Whole
pub mod ValuesSeen
pub mod Resolving
pub mod Scalars
pub mod Subscripts
