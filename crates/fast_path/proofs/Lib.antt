-- Laws of the crate.
pub mod Words
pub mod Answers
pub mod Standing
pub mod Pushing
pub mod Operating
pub mod Storing
pub mod Going
pub mod Decoding
