pub mod State
pub mod Limits
pub mod Nibbles
pub mod Node
pub mod Trie
pub mod Nodes
pub mod Fetches
pub mod Example
