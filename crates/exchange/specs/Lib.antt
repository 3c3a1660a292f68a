pub mod Mapping
pub mod Answer
pub mod Machine
pub mod Request
pub mod Runs
