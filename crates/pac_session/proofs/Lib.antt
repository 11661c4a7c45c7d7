pub mod SessionLemmas
pub mod CutLemmas
