-- Laws of frames and of machines of words: what they are read off, and how often a word stands in their cells.
pub mod Counts
pub mod Frames
