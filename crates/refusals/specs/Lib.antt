pub mod Refusals
pub mod RefusalTexts
