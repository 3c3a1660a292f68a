pub mod Place
pub mod Stands
pub mod Window
