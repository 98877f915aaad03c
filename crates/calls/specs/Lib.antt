pub mod Changes
pub mod Entries
pub mod Headers
pub mod Names
pub mod Records
