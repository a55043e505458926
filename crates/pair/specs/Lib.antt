pub mod Counts
pub mod Frames
pub mod Pairs
