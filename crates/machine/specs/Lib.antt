-- What the contracts inside the crate cite: what a run is lent, the function that is run, a run that is under way.
pub mod Lent
pub mod Held
pub mod Resuming
