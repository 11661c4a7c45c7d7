pub mod Machine
pub mod Loads
pub mod HandOut
pub mod PartialFits
pub mod PlanLaws
pub mod Works
pub mod Exchange
