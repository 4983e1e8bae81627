pub mod Paths
pub mod Collision
pub mod Depth
pub mod inner
pub mod Reads
pub mod Walks
pub mod Searches
