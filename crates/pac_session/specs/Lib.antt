pub mod Session
pub mod Groups
pub mod Open
