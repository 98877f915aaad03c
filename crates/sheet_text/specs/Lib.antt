pub mod Blocks
pub mod Starts
pub mod Texts
