-- The laws of counts.
pub mod Laws
