-- The text of a fault.
-- The lines of a sheet's first faults.
pub mod Texts
pub mod Lines
