pub mod Acked
pub mod Asked
pub mod Causes
pub mod Opening
pub mod Run
pub mod Serving
pub mod Stopping
pub mod Texts
