pub mod Times
pub mod Model
