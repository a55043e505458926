pub mod Reading
pub mod Rehearsing
