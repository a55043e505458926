pub mod Times
pub mod Runs
pub mod Law
pub mod Tells
pub mod Seats
pub mod Examples
