pub mod KeySlots
pub mod Sayings
pub mod Finding
pub mod Looking
pub mod Stepping
