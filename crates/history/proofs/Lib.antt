pub mod Pairs
pub mod Ledgers
pub mod Histories
pub mod Alikeness
pub mod Laws
pub mod Traces
pub mod Asked
