-- Laws of the crate: an instruction, a step and a run by the ways that the code goes.
pub mod Dispatching
pub mod Stepping
pub mod Budget
