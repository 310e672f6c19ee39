-- Laws of tests 16, 17 and 18, of the table's order, and the structure of what is accepted.
pub mod Chain
pub mod Ranges
pub mod VariableMarks
pub mod FrameCells
pub mod Meeting
pub mod Tallies
pub mod Compared
pub mod Table
pub mod Descent
pub mod ChainTest
pub mod Positions
pub mod CellKinds
pub mod FrameTest
pub mod Owners
pub mod Structure
