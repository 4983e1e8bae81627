pub mod Answers
pub mod Heads
pub mod Recovering
pub mod Scanning
pub mod inner
