pub mod Pairs
pub mod Suffixes
pub mod inner
