pub mod Frame
pub mod Block
pub mod Payload
