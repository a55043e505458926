pub mod Hexing
