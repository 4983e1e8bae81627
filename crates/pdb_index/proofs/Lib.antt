pub mod Spellings
pub mod Parts
