pub mod Grammar
pub mod Faults
pub mod Machine
pub mod Views
pub mod Limits
pub mod Reading
pub mod Order
pub mod WithoutLoops
