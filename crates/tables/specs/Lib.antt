pub mod Sites
pub mod Gradings
pub mod Searches
