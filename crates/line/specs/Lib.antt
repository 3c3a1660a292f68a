pub mod Spelt
pub mod Bit
pub mod Signal
pub mod Window
pub mod Sized
