-- Laws on what is put at a place, and on decimals.
-- Laws on tables of names and on the numbers of new names.
pub mod Writing
pub mod Writers
pub mod Decimal
pub mod Stems
pub mod Places
pub mod Free
pub mod Buffer
pub mod Table
