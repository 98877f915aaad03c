pub mod Factor
pub mod Laws
pub mod Answer
pub mod Classes
pub mod Extents
