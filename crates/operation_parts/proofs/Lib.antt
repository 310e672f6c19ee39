-- Laws of the crate.
pub mod Products
pub mod Lent
