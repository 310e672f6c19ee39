-- Laws of the manual's tables, and of a table that is lent.
pub mod Lookup
pub mod Once
pub mod Numbers
