-- The proof of the statement in specs/.
mod Permuted
pub mod Theorem
