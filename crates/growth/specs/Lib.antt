pub mod Growth
pub mod Small
