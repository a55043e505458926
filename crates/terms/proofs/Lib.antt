pub mod Numbers
pub mod Laid
