mod Wraps
mod Merged
mod Sound
