pub mod ChangeForm
pub mod EntryForm
pub mod HeaderForm
pub mod Listing
