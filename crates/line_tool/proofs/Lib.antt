-- Laws of the crate.
pub mod Places
pub mod Numerals
pub mod Putting
pub mod Listing
pub mod Sameness
pub mod Entries
pub mod Hashing
pub mod Hands
pub mod Said
