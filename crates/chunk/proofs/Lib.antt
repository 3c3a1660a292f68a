pub mod BufferLaws
pub mod GainLaws
pub mod FollowLaws
pub mod LookLaws
pub mod TakeLaws
