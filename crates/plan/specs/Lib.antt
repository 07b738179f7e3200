pub mod Tables
pub mod Planned
pub mod Closed
pub mod Walks
