pub mod Need
pub mod Leads
pub mod Yield
pub mod Faults
pub mod Whole
pub mod Locals
pub mod Rewritten
pub mod Sheets
