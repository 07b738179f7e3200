-- What it means to put bytes at a place.
-- Tables of names, and the numbers of new names.
-- A sheet's tokens with the letters of its names.
pub mod Writing
pub mod Written
pub mod Stems
pub mod Places
pub mod Table
pub mod Free
pub mod Named
