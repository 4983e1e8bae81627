pub use Rattle.trie_model.specs.State
pub use Rattle.trie_model.specs.Limits
pub use Rattle.trie_model.specs.Nibbles
pub use Rattle.trie_model.specs.Node
pub use Rattle.trie_model.specs.Trie
pub mod Blocks
pub mod Clear
