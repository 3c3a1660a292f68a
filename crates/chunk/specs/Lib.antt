pub mod Look
pub mod Taking
