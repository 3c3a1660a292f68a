pub mod Reading
pub mod Loss
pub mod Track
