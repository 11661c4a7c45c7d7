pub mod ProbeLemmas
pub mod TypedKeys
pub mod RecordTouches
pub mod PartSteps
pub mod PlaceLemmas
pub mod VariableLemmas
pub mod PushLemmas
pub mod OutputLemmas
