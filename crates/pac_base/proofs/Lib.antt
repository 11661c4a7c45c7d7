pub mod ItemLemmas
pub mod TestLemmas
