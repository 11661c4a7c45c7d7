pub mod OrderLemmas
pub mod SetLemmas
pub mod FrontLemmas
pub mod OpenLemmas
pub mod KeptLemmas
pub mod SourceLemmas
