-- Document 01 as definitions, in reading order (docs/RULES.md leads through them).
pub mod Lists
pub mod Tokens
pub mod Tree
pub mod Refusals
pub mod Reading
pub mod Grammar
pub mod Bytes
pub mod Types
pub mod Clock
pub mod InferClocks
pub mod Declock
pub mod Output
pub mod Texts
pub mod Answer
pub mod LiteralSheets
pub mod Starred
