pub mod Laying
pub mod Calling
pub mod Keeping
