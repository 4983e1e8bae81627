pub mod ChangedKeys
pub mod Item
pub mod Frontier
pub mod Settings
pub mod Deltas
pub mod Changing
pub mod inner
