-- Procedure segments: bytes, directory, headers, code and lines, and the tests 11 and 12.
pub mod Bytes
pub mod Headers
pub mod Directory
pub mod Refusal
pub mod Faults
pub mod Accepted
pub mod Examples
