-- The theorems of first bytes and of decoding, and what they rest on.
pub mod FirstBytes
pub mod Confined
pub mod Measured
pub mod Stands
pub mod Forms
pub mod Encoded
pub mod Theorem
