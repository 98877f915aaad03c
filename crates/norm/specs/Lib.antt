pub mod Percentages
pub mod Tables
pub mod Roles
pub mod Words
