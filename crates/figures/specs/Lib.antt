pub mod Headings
pub mod Withdrawals
pub mod Figures
