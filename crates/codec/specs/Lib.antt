pub mod FrameTypes
pub mod Frames
pub mod FrameLaws
pub mod Telegrams
pub mod TelegramLaws
pub mod Sealing
