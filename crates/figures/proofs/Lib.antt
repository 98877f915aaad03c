pub mod Computed
pub mod Worsts
