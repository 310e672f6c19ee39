-- Laws of tests 13, 14 and 15.
pub mod Tests
pub mod Tallies
pub mod StateWords
pub mod Spans
pub mod Starts
pub mod Walk
pub mod Insides
pub mod Rounds
pub mod Tiling
pub mod RingTest
pub mod Structure
pub mod Room
