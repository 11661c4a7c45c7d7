pub mod MapLemmas
pub mod EntryLemmas
pub mod ValueLemmas
pub mod RemainderLemmas
pub mod CellLemmas
pub mod ByForms
pub mod OffsetLemmas
pub mod SortedLemmas
pub mod ArithmeticLemmas
pub mod KeyTypes
mod RestrictedLemmas
