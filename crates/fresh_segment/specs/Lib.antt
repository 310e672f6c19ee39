-- Lay out, and what it leaves.
pub mod LayOut
pub mod Fresh
pub mod FreshWords
pub mod Examples
