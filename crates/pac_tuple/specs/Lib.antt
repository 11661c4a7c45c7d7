pub mod Kinds
pub mod Images
pub mod ImageReading
pub mod Laying
pub mod AfterImages
pub mod Recording
pub mod Shares
