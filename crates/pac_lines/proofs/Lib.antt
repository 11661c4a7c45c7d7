pub mod CallLemmas
pub mod FeedLemmas
pub mod LimitLemmas
pub mod LineLemmas
pub mod ReadLemmas
pub mod ShortLemmas
pub mod ShortCalls
