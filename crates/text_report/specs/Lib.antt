pub mod Norms
pub mod TextReports
