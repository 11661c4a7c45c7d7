pub mod FlatForm
pub mod Names
pub mod Agreement
pub mod Unaccepted
