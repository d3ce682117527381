pub mod HeadingLoop
pub mod Parts
pub mod Telescope
pub mod Nearby
pub mod PageLoop
pub mod WrittenPlaces
