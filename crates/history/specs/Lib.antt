pub mod BasicLaw
pub mod History
pub mod Law
pub mod Logs
pub mod Outcomes
pub mod Questions
pub mod Steps
