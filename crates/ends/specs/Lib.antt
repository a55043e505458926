pub mod Ends
pub mod Arrivals
pub mod Ways
pub mod Effects
pub mod Puts
pub mod Calls
pub mod Openings
pub mod Steps
