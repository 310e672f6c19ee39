-- What the view of an accepted segment is, told by cells, and what instructions leave of it.
pub mod Legal
pub mod Accepted
pub mod Kept
