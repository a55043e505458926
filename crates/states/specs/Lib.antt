pub mod Reasons
pub mod States
