-- What a word of the data segment says.
pub mod Fields
pub mod Kinds
pub mod Inverse
pub mod Examples
