pub mod Least
pub mod Factors
pub mod Norms
