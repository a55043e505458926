pub mod Cuts
pub mod Digits
pub mod Joins
pub mod Trips
pub mod HexTrips
