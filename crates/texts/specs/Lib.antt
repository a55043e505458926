pub mod Faults
pub mod Pieces
pub mod Numbers
pub mod Headings
pub mod Columns
pub mod Words
pub mod Writing
