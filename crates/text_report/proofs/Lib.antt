pub mod Effects
pub mod Entered
