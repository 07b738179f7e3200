-- What each question asks, and what its answer is.
pub mod Asked
