pub mod WorkerLemmas
mod FedLemmas
mod WindowEnds
mod RestLemmas
pub mod StandsLemmas
