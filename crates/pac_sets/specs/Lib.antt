pub mod SetOrder
pub mod Sets
