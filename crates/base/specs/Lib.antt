pub mod Choice
pub mod Tab
pub mod Answer
pub mod Number
