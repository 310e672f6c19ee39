-- The manual: what every instruction means, told by cells and values. No block, count or address of storage is spoken of.
pub mod OrTrap
pub mod Values
pub mod Seen
pub mod Effects
pub mod Loads
pub mod Scalars
pub mod Memory
pub mod Control
pub mod Program
pub mod Instructions
pub mod Traps
pub mod Comparisons
pub mod Cases
pub mod Joins
pub mod Examples
