pub mod Edges
pub mod Defines
