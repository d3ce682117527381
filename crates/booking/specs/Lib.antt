pub mod Booking
pub mod LineTexts
pub mod Quantities
pub mod Methods
pub mod Rows
pub mod Emissions
