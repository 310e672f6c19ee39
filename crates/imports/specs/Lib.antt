-- Files of sales imports: numbers, records, and how they are written.
pub mod Numbers
pub mod Records
pub mod Encoding
pub mod Theorems
pub mod Examples
pub mod Parsing
