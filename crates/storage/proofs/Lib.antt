-- Laws of the crate: its definitions by their ways, as the code's branches meet them.
pub mod Requests
pub mod Releases
pub mod Placing
pub mod Written
pub mod Counts
