-- Fault records in words.
pub mod Said
