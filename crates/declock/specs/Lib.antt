pub mod Tabled
pub mod Parts
pub mod Ready
pub mod Planned
