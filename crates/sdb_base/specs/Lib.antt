pub mod Nibbles
pub mod Content
pub mod Keeping
pub mod TooLong
pub mod Pipeline
