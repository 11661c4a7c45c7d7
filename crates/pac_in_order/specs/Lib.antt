pub mod Courses
pub mod Lines
