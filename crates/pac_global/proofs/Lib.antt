pub mod OffsetLemmas
pub mod HomeLemmas
pub mod BlockLemmas
pub mod DrawnLemmas
pub mod PlanLemmas
