-- Laws of the fresh segment, and the theorem.
pub mod Runs
pub mod Words
pub mod Passed
pub mod Storage
pub mod View
pub mod Fresh
pub mod FreshWords
