pub mod Halves
pub mod Nearness
pub mod Products
