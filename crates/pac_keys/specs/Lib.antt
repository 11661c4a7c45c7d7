pub mod Probes
pub mod Records
pub mod PlanCodes
pub mod Interfaces
