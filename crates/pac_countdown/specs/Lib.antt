pub mod Lists
pub mod Counted
pub mod Steps
pub mod Seen
pub mod Shares
pub mod HandOut
