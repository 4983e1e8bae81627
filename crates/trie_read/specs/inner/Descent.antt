-- A key's way down a node and the inline nodes in it.
use Rattle.std.specs.Prelude.{◌≡◌, ◌<◌, ◌≤◌, ℕ, zero, suc, ◌==◌, List, [], ◌∷◌, length, drop, slice_index_or, Option, Some, None, if◌then◌else◌, Result, Ok, Err}
use Rattle.trie_model.specs.Node.{Node}
use Rattle.trie_model.specs.Trie.{after_prefix}
use Rattle.trie_codec.specs.Reading.{node_of_bytes}
use Rattle.trie_codec.specs.Slices.{bytes_in}
use Rattle.trie_codec.specs.declared.fault.CodecFault.{CodecFault}
use Rattle.trie_codec.specs.declared.node_ref.ChildRef.{ChildRef}
use Rattle.trie_codec.specs.declared.node_ref.ChildRef.TheVariants as child
use Rattle.trie_read.specs.declared.descent.Found.{Found}
use Rattle.trie_read.specs.declared.descent.Found.TheVariants as found

-- it ends, with the key's value, or goes on at a hash with what is left of the key
pub data Outcome : Type 0 where
  Ended : Option (List ℕ) → Outcome
  Wants : List ℕ → List ℕ → Outcome

abbrev pub inline_way : (Node → List ℕ → Outcome) → Result Node CodecFault → List ℕ → Outcome
inline_way go (Ok n) rest = go n rest
inline_way go (Err f) rest = Ended None

abbrev pub child_way : (Node → List ℕ → Outcome) → Option (List ℕ) → List ℕ → Outcome
child_way go None rest = Ended None
child_way go (Some c) rest = if length c == 32 then Wants c rest else inline_way go (node_of_bytes c) rest

abbrev pub way_after : (Node → List ℕ → Outcome) → Node → Option (List ℕ) → Outcome
way_after go n None = Ended None
way_after go n (Some []) = Ended n.value
way_after go n (Some (nibble ∷ rest)) = child_way go (slice_index_or n.children nibble None) rest

-- with at most so many inline nodes one below the other
unfoldable pub way_down : ℕ → Node → List ℕ → Outcome
way_down zero n key = Ended None
way_down (suc levels) n key = way_after (way_down levels) n (after_prefix n.partial key)

abbrev pub outcome_of : List ℕ → Found → Outcome
outcome_of key (found.Ended value) = Ended (bytes_in value)
outcome_of key (found.Wants hash at) = Wants hash.now (drop at key)

-- an inline child is shorter than a hash
abbrev pub IsSized : ChildRef → Type 0
IsSized child.None = Unit {0}
IsSized (child.Inline bytes) = length bytes.now < 32
IsSized (child.Hashed hash) = length hash.now ≡ 32

-- the next node hangs within the key, and its hash is one
abbrev pub FitsKey : ℕ → Found → Type 0
FitsKey most (found.Ended value) = Unit {0}
FitsKey most (found.Wants hash at) = (at ≤ most) × (length hash.now ≡ 32)
