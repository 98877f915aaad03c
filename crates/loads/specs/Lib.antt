pub mod Letters
pub mod Rules
