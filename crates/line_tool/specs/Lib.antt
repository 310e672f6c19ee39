-- How lines of a script are read and answers written.
pub mod Text
pub mod Tokens
pub mod Numbers
pub mod Bytes
pub mod Lists
pub mod Commands
pub mod Hash
pub mod Writing
pub mod Faults
pub mod Tables
pub mod Explain
pub mod Lines
pub mod Pens
