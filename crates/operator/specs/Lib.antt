-- The manual's table of operators, and a table that is lent in its place.
pub mod Table
pub mod Lent
pub mod Examples
