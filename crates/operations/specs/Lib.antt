-- The operations, each by one definition of its answer and of the segment after it.
pub mod Answers
pub mod Refusals
pub mod Run
pub mod Load
pub mod Look
pub mod Sheet
pub mod Replay
