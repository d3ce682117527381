pub mod Adding
pub mod Rounding
