pub mod Joined
pub mod Written
pub mod Room
