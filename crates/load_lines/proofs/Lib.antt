pub mod LoadForm
pub mod NamesForm
pub mod WordFields
