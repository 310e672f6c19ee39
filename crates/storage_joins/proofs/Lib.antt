-- The test for a straight copy by its ways, and the array that two parts of the segment make.
pub mod Joining
