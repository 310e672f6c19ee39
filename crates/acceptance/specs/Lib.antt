-- Acceptance of a data segment: tests 16, 17 and 18, and the table's order over all tests.
pub mod Frames
pub mod Cells
pub mod Counts
pub mod Refusal
pub mod Tables
pub mod Before
pub mod Answer
pub mod Structure
