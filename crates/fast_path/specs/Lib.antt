-- What the fast path of an instruction answers.
pub mod Naming
pub mod Answers
pub mod Examples
