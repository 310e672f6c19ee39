-- The rules of placement: where a request finds its block and what a release does to the ring. And a join, which is copied straight.
pub mod Placement
pub mod Straight
