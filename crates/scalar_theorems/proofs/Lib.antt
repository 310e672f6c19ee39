-- The proofs of the statements in specs/.
mod Closest
mod Floats
pub mod Rounding
mod Words
pub mod Comparing
mod Multiples
pub mod Neighbours
pub mod Validity
