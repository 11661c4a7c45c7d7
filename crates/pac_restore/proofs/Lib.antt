pub mod CauseLemmas
pub mod BatchLemmas
pub mod ReadLemmas
pub mod TakenLemmas
pub mod FromLemmas
pub mod KnownLemmas
pub mod SlotLemmas
mod TablesLemmas
mod RefusalLemmas
pub mod LoadLemmas
pub mod OpenLemmas
pub mod WholeLemmas
pub mod LoadedLemmas
pub mod EndLemmas
pub mod RestoreLemmas
pub mod StandsLemmas
pub mod SinkLemmas
mod OverLemmas
