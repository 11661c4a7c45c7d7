pub mod JoinedLemmas
pub mod CopyLemmas
pub mod WriteLemmas
pub mod RoomLemmas
pub mod OnceLemmas
pub mod HashedLemmas
pub mod SortedRowLemmas
