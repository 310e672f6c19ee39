-- Laws that the proofs of this crate share, and those that others cite.
pub mod Ranges
pub mod Cases
pub mod Lengths
pub mod Words
