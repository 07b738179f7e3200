-- What a listed line says.
pub mod Fields
