pub mod Kinds
pub mod PieceStates
pub mod Checkpoints
pub mod CheckpointReading
pub mod Saved
pub mod Taking
pub mod SlotStates
pub mod Replacing
