pub mod Maps
pub mod BuiltIn
pub mod Lists
pub mod Layers
pub mod LackTexts
