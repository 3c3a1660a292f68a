pub mod Signalling
pub mod Lost
pub mod Answer
pub mod Entry
pub mod Follow
