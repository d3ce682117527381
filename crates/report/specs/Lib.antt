pub mod ReportLines
pub mod Projects
pub mod Calls
pub mod ProjectReports
pub mod Reports
