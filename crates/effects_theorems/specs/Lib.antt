-- What is proved of the effects of instructions on words.
pub mod Theorems
pub mod Plans
