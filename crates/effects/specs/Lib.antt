-- The effects of instructions on the words of a data segment, what they need of it, and what a step and a run come to.
pub mod Sources
pub mod Perform
pub mod Seen
pub mod Sound
pub mod Fits
pub mod Alike
pub mod Requests
pub mod Carried
pub mod Step
pub mod Run
pub mod Tally
pub mod Examples
