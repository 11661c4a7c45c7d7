pub mod GroupLemmas
pub mod DumpLemmas
pub mod SliceLemmas
pub mod BlockLemmas
