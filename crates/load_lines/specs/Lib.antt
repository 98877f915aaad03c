pub mod Loads
pub mod Names
