pub mod Fed
pub mod Shown
pub mod Takes
pub mod Twins
