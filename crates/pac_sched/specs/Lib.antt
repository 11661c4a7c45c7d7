pub mod Schedules
pub mod ReadySets
pub mod Orders
pub mod Counts
pub mod Calls
pub mod Picks
