-- Counts of finished instructions by family.
pub mod Counts
