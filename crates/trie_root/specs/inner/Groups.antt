-- Sorted pairs that agree in their first nibbles, as the suffixes after those.
use Rattle.std.specs.Prelude.{◌≡◌, ◌≢◌, ℕ, ◌*◌, ◌-◌, ◌<◌, ◌≤◌, ◌==◌, List, [], ◌∷◌, Option, Some, None, if◌then◌else◌, drop, take, length, map, slice_index, All, IsTrue}
use Rattle.std.specs.Ordering.{nat_cmp}
use Rattle.std.specs.Cmp.Lexicographic.{slice_cmp}
use Rattle.std.specs.FinMap.{is_sorted}
use Rattle.sdb_base.specs.Nibbles.{nibbles_of}
use Rattle.sdb_base.specs.declared.Pair.{Pair}
use Rattle.trie_model.specs.Node.{Node}
use Rattle.trie_model.specs.Trie.{Suffix, below, child_value, node_of_all, every_nibble}
use Rattle.trie_root.specs.Pairs.{AllWithin}

-- what is left of the keys after their first nibbles, so many, with the values
abbrev pub suffixes_from : ℕ → List Pair → List Suffix
suffixes_from at pairs = map (λ (p : Pair). (drop at (nibbles_of p.key), p.value)) pairs

-- the Merkle value of the node over the suffixes that go on with a nibble, if there are any
abbrev pub child_below : List Suffix → ℕ → Option (List ℕ)
child_below suffixes nibble = child_value node_of_all (below (nibble ∷ []) suffixes)

-- the Merkle values of the nodes over the suffixes that go on with each nibble
unfoldable pub children_over : List Suffix → List (Option (List ℕ))
children_over suffixes = map (child_below suffixes) every_nibble

-- the pair's value, if its key ends at so many nibbles
abbrev pub value_ending_at : ℕ → Pair → Option (List ℕ)
value_ending_at at p = if length (drop at (nibbles_of p.key)) == 0 then Some p.value else None

-- the node whose partial key is the pair's key from one nibble to another
abbrev pub node_between : Pair → ℕ → ℕ → List (Option (List ℕ)) → Node
node_between p from end children = record {
  partial = take (end - from) (drop from (nibbles_of p.key));
  value = value_ending_at end p;
  children = children;
}

-- pairs whose keys have so many nibbles at least, and which rise after those
pub record IsGroup (at : ℕ) (pairs : List Pair) : Type 0 where
  pub within : AllWithin pairs
  pub long : All (λ (p : Pair). at ≤ 2 * length p.key) pairs
  pub sorted : IsTrue (is_sorted (slice_cmp nat_cmp) (suffixes_from at pairs))

-- pairs whose keys go on after so many nibbles, and which rise after those
pub record GoesOn (at : ℕ) (pairs : List Pair) : Type 0 where
  pub within : AllWithin pairs
  pub longer : All (λ (p : Pair). at < 2 * length p.key) pairs
  pub sorted : IsTrue (is_sorted (slice_cmp nat_cmp) (suffixes_from at pairs))

-- the pair's key goes on with the nibble
abbrev pub HasNext : ℕ → ℕ → Pair → Type 0
HasNext at nibble p = slice_index (nibbles_of p.key) at ≡ nibble

-- the first pair, if there is one, does not go on with the nibble
abbrev pub IsOtherNext : ℕ → ℕ → List Pair → Type 0
IsOtherNext at nibble [] = Unit {0}
IsOtherNext at nibble (p ∷ ps) = slice_index (nibbles_of p.key) at ≢ nibble
