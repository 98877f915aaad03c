pub mod Entries
pub mod Forces
