pub mod Table
pub mod Owed
pub mod Marks
pub mod Spans
pub mod Laid
pub mod Walk
