pub mod Remainder
pub mod Registers
pub mod Words
