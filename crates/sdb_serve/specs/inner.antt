-- What only the crate's own clauses cite.
pub mod Blocks
pub mod Pieces
pub mod Kept
pub mod Stores
pub mod Steps
