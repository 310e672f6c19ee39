-- What first bytes say, the bytes of every instruction, and the theorems of decoding.
pub mod FirstBytes
pub mod Encoder
pub mod Theorems
pub mod Examples
