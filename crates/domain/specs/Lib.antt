pub mod Ranges
pub mod Numbers
pub mod Buildings
pub mod Factors
pub mod FieldTexts
