pub mod Bases
pub mod ListingLines
pub mod StatementTexts
pub mod Listings
pub mod WrittenListings
