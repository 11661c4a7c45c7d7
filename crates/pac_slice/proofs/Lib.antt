pub mod FlowLemmas
pub mod ConflictLemmas
pub mod SliceLemmas
pub mod PairLemmas
pub mod OneLocalGraph
