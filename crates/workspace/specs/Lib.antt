-- What the working tables have room for.
pub mod Room
