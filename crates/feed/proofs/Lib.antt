pub mod Framing
pub mod Reading
pub mod ReaderLaw
pub mod ReaderEnds
pub mod FirstNote
pub mod ReaderLoop
pub mod FactorRows
pub mod ReadLimit
