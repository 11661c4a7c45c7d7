pub mod Writes
pub mod WriteSets
pub mod Commits
pub mod Outcomes
pub mod Transactions
pub mod TextMeaning
