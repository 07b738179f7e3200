pub mod Callees
pub mod Indexed
