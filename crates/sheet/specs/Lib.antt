pub mod Checks
pub mod Held
pub mod Ledger
