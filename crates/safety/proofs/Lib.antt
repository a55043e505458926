pub mod Channels
pub mod Register
pub mod Long
pub mod Unique
