-- What is shown of tables of operators that are lent. The statement is a record of named parts; proofs/ has a term of it.
pub mod Theorems
