-- Array storage: what requests, releases and counts do to its words, and what it must be.
pub mod Ring
pub mod Request
pub mod Release
pub mod Arrays
pub mod Found
pub mod Heap
pub mod Owned
pub mod Examples
