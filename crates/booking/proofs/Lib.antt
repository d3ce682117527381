pub mod BookedEntries
mod Measures
mod Patterns
pub mod OneResult
mod Results
