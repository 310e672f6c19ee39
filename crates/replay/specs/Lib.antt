-- What the loop over the records knows of the segment, and of what a record returned.
pub mod Tested
