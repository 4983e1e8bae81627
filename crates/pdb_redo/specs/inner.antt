-- What only the crate's own clauses cite.
pub mod Carrying
pub mod Keeping
pub mod Placing
pub mod Creation
pub mod Writing
