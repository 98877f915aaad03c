pub mod KindLines
pub mod WholeText
