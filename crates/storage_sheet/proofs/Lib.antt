-- The walk that adds up, and the theorems of the sheet.
pub mod Adding
pub mod Theorems
