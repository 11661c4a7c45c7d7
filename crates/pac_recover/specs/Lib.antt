pub mod Outcomes
pub mod FedLogs
pub mod Windows
pub mod Recovering
