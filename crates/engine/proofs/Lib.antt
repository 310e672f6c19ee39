-- The tables of the operations, and that what they say is what is promised.
pub mod LayingOut
pub mod Loading
pub mod Running
pub mod Looking
pub mod Sheeting
