pub mod Overlays
pub mod TwoPasses
pub mod Digits
pub mod Onward
