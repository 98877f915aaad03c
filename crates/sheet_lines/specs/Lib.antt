pub mod Bodies
pub mod Faults
pub mod Heading
