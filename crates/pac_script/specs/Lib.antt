pub mod BankText
pub mod Lines
pub mod Batches
pub mod Cutting
pub mod Script
pub mod ScriptReading
pub mod Stress
pub mod BatchFits
