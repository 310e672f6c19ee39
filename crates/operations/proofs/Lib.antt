-- Laws of the operations: no test has the number 0, and no two refusals have one; what a run's tests come to; a replay's counts are eight, its place lies in
-- the file.
pub mod Answers
pub mod Refusals
pub mod Tests
pub mod Replays
