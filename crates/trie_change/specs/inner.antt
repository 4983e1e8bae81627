-- Definitions for the clauses of private functions and for their proofs. No other crate cites them.
pub mod Built
pub mod Diffs
pub mod Settled
pub mod Known
pub mod Room
pub mod InOrder
pub mod LastSet
pub mod Merged
pub mod Pieces
pub mod Stages
