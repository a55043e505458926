pub mod Framing
pub mod Judging
pub mod TelegramTrips
pub mod Sealings
