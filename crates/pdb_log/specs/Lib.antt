pub mod Ledger
pub mod Answers
pub mod Standing
pub mod Recovered
pub mod Elapsed
pub mod Tallies
