pub mod Value
pub mod Flat
pub mod Environment
pub mod Rows
pub mod Equality
pub mod Grown
pub mod Words
