-- Laws of the crate.
pub mod Placing
pub mod FrameWords
pub mod Copying
pub mod Carrying
