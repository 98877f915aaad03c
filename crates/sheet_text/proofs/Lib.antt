pub mod Back
pub mod Blocks
pub mod Once
pub mod Wholes
