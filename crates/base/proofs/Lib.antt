pub mod ChoiceLaws
pub mod OptionLaws
pub mod TabLaws
pub mod PartLaws
pub mod AnswerLaws
pub mod NumberLaws
