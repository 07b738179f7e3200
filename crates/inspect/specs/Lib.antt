-- What is said of a sheet.
pub mod Summary
