pub mod Bounds
pub mod Flat
pub mod Tables
pub mod TwoStoreys
