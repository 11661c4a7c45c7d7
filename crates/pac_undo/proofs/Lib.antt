pub mod ImageLemmas
pub mod NoteLemmas
pub mod SameLemmas
