pub mod Committing
pub mod Standing
pub mod Closing
pub mod Moves
pub mod Handled
