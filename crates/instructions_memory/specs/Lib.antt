-- What the contracts of the crate say beside the manual's plans.
pub mod Pushed
pub mod Indexed
