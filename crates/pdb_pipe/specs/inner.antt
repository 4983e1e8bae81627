-- What only the crate's own clauses cite.
pub mod Order
pub mod OpenOnce
pub mod Faults
pub mod After
pub mod Counting
pub mod StageLogging
