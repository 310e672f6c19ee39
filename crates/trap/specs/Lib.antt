-- Traps.
pub mod Trap
