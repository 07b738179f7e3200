pub mod Out
pub mod Copies
