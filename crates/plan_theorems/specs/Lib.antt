-- What is proved of the plans of instructions: they fit, and keep to words of 32 bits.
pub mod Fitting
pub mod Bounded
