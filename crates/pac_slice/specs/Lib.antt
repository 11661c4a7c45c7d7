pub mod Dependent
pub mod Slices
