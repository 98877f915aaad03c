pub mod Loads
pub mod Answer
pub mod Example
