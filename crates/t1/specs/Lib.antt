pub mod Superframe
pub mod Payload
pub mod Raw
