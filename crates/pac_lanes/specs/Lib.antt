pub mod Shares
pub mod Lanes
pub mod Rounds
pub mod Stays
pub mod Finish
pub mod Loans
pub mod Bulk
pub mod ArgKeys
