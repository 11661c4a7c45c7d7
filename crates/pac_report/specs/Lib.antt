pub mod Dump
pub mod Explain
pub mod GroupTexts
pub mod Replies
pub mod Status
