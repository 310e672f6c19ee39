-- The laws that the functions' proofs cite.
pub mod Rounding
pub mod Sticky
pub mod Operands
pub mod Units
pub mod Addition
pub mod Multiplication
pub mod Division
pub mod Ones
pub mod Integral
pub mod Logical
pub mod Equality
pub mod Ordering
