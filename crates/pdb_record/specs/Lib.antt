pub mod Heads
pub mod Scans
pub mod inner
