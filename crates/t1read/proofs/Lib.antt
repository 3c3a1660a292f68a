pub mod EntryLaws
mod FilledLaws
mod Judged
mod Answers
pub mod AnswerLaws
