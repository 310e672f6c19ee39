-- Steps, runs and each call, replays and what they count, the demands, the par list, and the examples by computation.
pub mod Full
pub mod Steps
pub mod Runs
pub mod Tests
pub mod Accepts
pub mod LayOut
pub mod Run
pub mod Look
pub mod Sheet
pub mod Load
pub mod Tally
pub mod Replay
pub mod Demands
pub mod RuledOut
pub mod ParList
pub mod Tables
pub mod Examples
