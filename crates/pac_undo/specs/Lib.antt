pub mod Undo
pub mod Images
