-- What a job is answered over whole maps.
use Rattle.std.specs.Prelude.{ℕ, ◌+◌, nat_le, List, ◌∷◌, if◌then◌else◌, Option, Some, None, is_some}
use Rattle.std.specs.FinMap.{get}
use Rattle.sdb_base.specs.declared.Block.{Block}
use Rattle.sdb_model.specs.State.{State}
use Rattle.sdb_model.specs.Trie.{trie_root}
use Rattle.sdb_model.specs.Blocks.{chain_of, count_at, number_of}
use Rattle.sdb_model.specs.declared.Refusal.TheVariants.{UnknownBlock, AlreadyExists, UnknownParent, TooManySiblings}
use Rattle.sdb_model.specs.declared.Reply.{Reply}
use Rattle.sdb_model.specs.declared.Reply.TheVariants.{Imported, Value, Key, Nothing, Listed, Root, Refused}
use Rattle.trie_model.specs.Fetches.{keys_with_prefix, next_key}

-- the value, or that there is none
abbrev pub value_reply : Option (List ℕ) → Reply
value_reply None = Nothing
value_reply (Some value) = Value value

-- a read of a key in a block's state
abbrev pub read_reply : Option State → List ℕ → Reply
read_reply None key = Refused UnknownBlock
read_reply (Some m) key = value_reply (get m key)

-- the key, or that there is none
abbrev pub key_reply : Option (List ℕ) → Reply
key_reply None = Nothing
key_reply (Some key) = Key key

-- the least key above a key in a block's state
abbrev pub next_reply : Option State → List ℕ → Reply
next_reply None key = Refused UnknownBlock
next_reply (Some m) key = key_reply (next_key m key)

-- the keys with a prefix in a block's state
abbrev pub list_reply : Option State → List ℕ → Reply
list_reply None prefix = Refused UnknownBlock
list_reply (Some m) prefix = Listed (keys_with_prefix m prefix)

-- the root of a block's state
abbrev pub root_reply : Option State → Reply
root_reply None = Refused UnknownBlock
root_reply (Some m) = Root (record { 0 = trie_root m })

-- at most so many blocks have one number
abbrev pub most_siblings : ℕ
most_siblings = 32

-- An import on a parent of this number, if it has one. It is refused where its own number would get one block too
-- many.
abbrev pub import_on : List Block → Block → Option ℕ → Reply
import_on blocks b None = Refused UnknownParent
import_on blocks b (Some n) =
    if is_some (chain_of blocks b.id) then Refused AlreadyExists
    else if nat_le most_siblings (count_at blocks (n + 1)) then Refused (TooManySiblings (n + 1))
    else Imported (n + 1)

-- an import of a block
unfoldable pub import_reply : List Block → Block → Reply
import_reply blocks b = import_on blocks b (number_of blocks b.parent)

-- the blocks after that reply to an import
abbrev pub after_import : List Block → Block → Reply → List Block
after_import blocks b (Imported n) = b ∷ blocks
after_import blocks b (Value value) = blocks
after_import blocks b (Key key) = blocks
after_import blocks b Nothing = blocks
after_import blocks b (Listed keys) = blocks
after_import blocks b (Root root) = blocks
after_import blocks b (Refused refusal) = blocks
