pub mod Slot16
pub mod Entry
pub mod Given
