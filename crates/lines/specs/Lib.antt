pub mod Faults
pub mod Lexing
pub mod Lines
pub mod NumberLines
pub mod Numeral
pub mod Reading
pub mod Fixed
