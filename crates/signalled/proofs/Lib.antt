pub mod Laws
pub mod Calls
mod Parts
