pub mod Sees
pub mod Counts
pub mod Places
pub mod ReadCut
pub mod Bounds
pub mod AtOnce
pub mod SearchCut
