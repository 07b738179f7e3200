-- The answers of the entry points.
pub mod Answers
pub mod Lending
