-- The theorem of walking.
pub mod Theorem
