-- What the contracts of the crate cite besides the manual.
pub mod Parts
