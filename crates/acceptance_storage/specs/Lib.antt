-- Tests 13, 14 and 15 of a data segment: its state words, its blocks and its ring.
pub mod Tests
pub mod Head
pub mod Blocks
pub mod Ring
pub mod Marks
pub mod Answer
pub mod Structure
pub mod Room
pub mod Examples
