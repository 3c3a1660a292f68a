pub mod Laws
pub mod LossLaws
pub mod Slots
pub mod Runs
pub mod FromLaws
pub mod Tracks
