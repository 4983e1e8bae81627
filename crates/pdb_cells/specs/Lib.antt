pub mod Sizes
pub mod Content
pub mod Names
pub mod Puts
pub mod Memory
pub mod inner
