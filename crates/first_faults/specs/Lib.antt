-- The faults of a sheet's nodes, in the code's terms.
pub mod Faults
