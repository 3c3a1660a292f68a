pub mod Writing
pub mod Answer
pub mod Entry
pub mod Inputs
