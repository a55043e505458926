pub mod Sessions
pub mod SessionLaws
pub mod Packets
pub mod Tallies
