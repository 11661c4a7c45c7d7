pub mod ShareLemmas
pub mod LaneLemmas
pub mod RoundLemmas
pub mod StayLemmas
pub mod FinishLemmas
pub mod LoanLemmas
pub mod BulkLemmas
pub mod ArgKeyLemmas
