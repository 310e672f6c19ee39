-- Answers as numbers, and the numbers taken apart.
pub mod Numbers
pub mod Apart
pub mod Examples
