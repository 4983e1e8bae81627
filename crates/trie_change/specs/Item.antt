-- An item of what is known of a trie: a key with its value, or a stored node by its hash and path.
use Rattle.trie_change.specs.declared.frontier.Entry.{Entry as KeyEntry}
use Rattle.trie_change.specs.declared.frontier.Stub.{Stub as NodeStub}

pub data Item : Type 0 where
  Entry : KeyEntry → Item
  Stub : NodeStub → Item
