-- What the instructions of control find out before they change a word.
pub mod Answers
