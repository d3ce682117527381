pub mod Deciding
pub mod RefusalNumbers
