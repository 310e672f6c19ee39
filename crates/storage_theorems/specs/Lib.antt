-- What is proved of array storage: its blocks and ring, and the words that own arrays.
pub mod Words
pub mod Tiling
pub mod Request
pub mod Release
pub mod HeapTheorems
pub mod Elsewhere
pub mod Counts
pub mod Place
pub mod Element
pub mod OwnerTheorems
