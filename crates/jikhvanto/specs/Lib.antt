pub mod Octets
pub mod Stream
pub mod Calls
pub mod Runs
