pub mod Columns
pub mod Listing
pub mod Faults
pub mod Rehearsals
