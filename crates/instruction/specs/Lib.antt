-- Instructions: first bytes, code reading, addresses, the manual's tables, lengths, decoding.
pub mod Families
pub mod Reading
pub mod Variables
pub mod Tables
pub mod Lengths
pub mod Decoding
pub mod Examples
