-- The rules of placement, proved; and that a join is copied straight.
pub mod Rings
pub mod Found
pub mod Released
pub mod Order
pub mod Placement
pub mod Straight
