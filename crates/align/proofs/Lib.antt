pub mod Laws
pub mod WhyLaws
pub mod Rows
mod Sets
pub mod Examples
