pub mod EntryLaws
pub mod RunLaws
