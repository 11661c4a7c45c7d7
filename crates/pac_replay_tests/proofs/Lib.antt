mod Numbered
pub mod NumberedPuts
pub mod Loading
