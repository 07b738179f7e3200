-- Where the names of a sheet stand, and which bucket each goes to.
-- The answers of `parts`, and what stands in the working arrays.
-- What is written.
pub mod Places
pub mod Buckets
pub mod Answers
pub mod Bytes
