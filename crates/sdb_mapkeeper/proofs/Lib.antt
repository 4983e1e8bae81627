pub mod Applying
pub mod Records
