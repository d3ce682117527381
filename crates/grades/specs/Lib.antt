pub mod Grades
pub mod Limits
pub mod Ratios
