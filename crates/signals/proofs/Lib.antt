pub mod Laws
pub mod Channels
pub mod Starts
pub mod LossLaws
pub mod Through
pub mod Found
pub mod Filling
pub mod EntryLaws
