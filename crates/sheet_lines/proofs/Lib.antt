pub mod BodyForm
pub mod HeadingForm
pub mod Narrowed
