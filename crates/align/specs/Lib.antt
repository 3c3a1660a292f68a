pub mod Place
pub mod Stands
pub mod Why
pub mod Says
pub mod Window
