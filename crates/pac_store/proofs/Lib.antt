pub mod StandsLemmas
pub mod ImageLemmas
pub mod CallLemmas
pub mod SavingLemmas
pub mod SegmentLemmas
pub mod RefusalLemmas
pub mod StepLemmas
pub mod WriteLemmas
