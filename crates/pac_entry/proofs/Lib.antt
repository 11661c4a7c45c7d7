pub mod WrittenLemmas
pub mod RowLemmas
pub mod ChangeLemmas
pub mod EntryLemmas
pub mod ReadingLemmas
