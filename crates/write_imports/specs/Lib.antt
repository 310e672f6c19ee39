-- What the program writes for a line.
pub mod Lines
