pub mod Calls
pub mod Lines
pub mod Reading
pub mod Short
