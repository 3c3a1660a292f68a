pub mod AnswerLaws
pub mod EntryLaws
pub mod Measures
