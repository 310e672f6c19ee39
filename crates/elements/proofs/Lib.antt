-- Laws of the crate.
pub mod Filling
pub mod Collecting
pub mod Fast
pub mod Seen
pub mod Lengths
pub mod Places
pub mod Integral
pub mod Compared
pub mod Conformity
