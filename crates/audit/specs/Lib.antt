-- The demands over the relation between words, call, answer and words; the auditor's par list; the marked examples.
pub mod Calls
pub mod Steps
pub mod Runs
pub mod Did
pub mod Replays
pub mod Lists
pub mod Demands
pub mod Accepts
pub mod RuledOut
pub mod ParList
pub mod Tables
pub mod Table
pub mod Story
pub mod Imported
pub mod Numbered
