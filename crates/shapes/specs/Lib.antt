-- What trees the sheet format can say.
pub mod Shape
