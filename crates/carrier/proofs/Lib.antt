pub mod Sides
mod Packing
mod Spots
mod Kept
