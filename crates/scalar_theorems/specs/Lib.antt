-- What is shown of the definitions of `scalar`. Each statement is a record of named parts; proofs/ has a term of each.
pub mod Line
pub mod Rounding
pub mod Comparing
pub mod Neighbours
pub mod Validity
