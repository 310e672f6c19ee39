-- Laws that the proofs of this crate share.
pub mod Parts
pub mod Faults
pub mod Accepting
