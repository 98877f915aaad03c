pub mod Columns
pub mod Factors
pub mod NormTables
