-- The sheet of array storage, the theorems of it, and examples.
pub mod Sheet
pub mod Theorems
pub mod Examples
