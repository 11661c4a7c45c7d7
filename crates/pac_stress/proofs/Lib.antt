pub mod Tokens
pub mod BankReading
pub mod BankTyping
pub mod BankFits
pub mod BatchRuns
pub mod PieceCounts
pub mod Finishing
pub mod NoAborts
mod OneSummary
