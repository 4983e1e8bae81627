pub mod Blake2b
pub mod Hasher
pub mod Constants
