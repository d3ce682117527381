pub mod Adding
pub mod Choosing
