pub mod BankCatalogue
pub mod StressBatches
pub mod Summary
pub mod Stressed
