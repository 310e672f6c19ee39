-- The arithmetic of scalars: what their words mean and what the sixteen operators give.
pub mod Value
pub mod Order
pub mod Results
pub mod Reading
pub mod Operators
pub mod Examples
pub mod Parts
