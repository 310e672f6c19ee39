-- Operands and variables of instructions, on words.
pub mod Operands
pub mod Variables
pub mod Taken
