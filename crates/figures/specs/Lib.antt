pub mod Combinations
pub mod Figures
