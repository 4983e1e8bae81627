pub mod States
pub mod Limits
