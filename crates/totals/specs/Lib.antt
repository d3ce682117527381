pub mod Sizes
pub mod Sums
