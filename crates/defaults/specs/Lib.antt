pub mod Depth
pub mod Has
pub mod Times
