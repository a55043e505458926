pub mod Apart
pub mod Seats
pub mod Origins
pub mod Deeds
pub mod Shapes
pub mod Ticking
pub mod Reading
pub mod Fetching
pub mod Moving
pub mod Putting
pub mod Fits
pub mod Telling
pub mod Simulation
pub mod Counting
pub mod Syncing
pub mod Accepting
pub mod Delivering
pub mod Lawful
mod Stepping
mod Playing
