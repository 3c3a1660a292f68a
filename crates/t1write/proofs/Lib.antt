pub mod Laws
pub mod Joins
pub mod Signals
pub mod Calls
mod Framing
mod Words
mod Parts
pub mod AnswerLaws
