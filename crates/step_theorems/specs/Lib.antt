-- The plan of the next instruction of a machine.
pub mod Planned
