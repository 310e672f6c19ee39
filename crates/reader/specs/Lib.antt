-- Walking one function's code.
pub mod Walking
pub mod Examples
pub mod Theorems
