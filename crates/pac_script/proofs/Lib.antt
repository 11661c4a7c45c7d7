pub mod LineDivision
pub mod MarkSearch
pub mod CutLemmas
pub mod ReadingLemmas
pub mod OneScript
pub mod BatchFitLemmas
