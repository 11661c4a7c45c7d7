pub mod Conflicts
pub mod NextLists
pub mod Queues
pub mod Sets
