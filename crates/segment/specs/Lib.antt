-- The layout of the data segment, and what it is seen as; words and bytes that are lent.
pub mod State
pub mod Blocks
pub mod Parts
pub mod Stack
pub mod Cells
pub mod Machine
pub mod View
pub mod Lent
