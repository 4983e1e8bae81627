-- The keys and values of a state of a dozen keys, by which the definitions are tried: values on both sides of the length at
-- which a node is hashed, keys that others go on from, and the empty key.
use Rattle.std.specs.Prelude.{ℕ, List, [], ◌∷◌, replicate, map}
use Rattle.sdb_base.specs.Nibbles.{nibbles_of}
use Rattle.trie_model.specs.Trie.{Suffix}
use Rattle.trie_model.specs.Nodes.{PathNode}

abbrev pub Entry : Type 0
Entry = List ℕ × List ℕ

-- the entries up to those of the first byte 0x10, those of 0x20, and those behind
abbrev pub low_entries : List Entry
low_entries = ([], 1 ∷ []) ∷ ((0x10 ∷ [], 1 ∷ []) ∷ ((0x10 ∷ (0x00 ∷ []), replicate 40 0) ∷ ((0x10 ∷ (0x01 ∷ []), 2 ∷ []) ∷ ((0x10 ∷ (0x20 ∷ []), 3 ∷ []) ∷ []))))

abbrev pub middle_entries : List Entry
middle_entries = (0x20 ∷ [], replicate 33 7) ∷ ((0x20 ∷ (0x30 ∷ []), 4 ∷ []) ∷ ((0x20 ∷ (0x31 ∷ []), replicate 30 5) ∷ []))

abbrev pub high_entries : List Entry
high_entries = (0xa0 ∷ [], 5 ∷ []) ∷ ((0xaa ∷ (0xbb ∷ []), replicate 29 6) ∷ ((0xaa ∷ (0xbc ∷ []), 6 ∷ []) ∷ ((0xff ∷ [], []) ∷ [])))

-- the middle ones without the key 20 30
abbrev pub merged_entries : List Entry
merged_entries = (0x20 ∷ [], replicate 33 7) ∷ ((0x20 ∷ (0x31 ∷ []), replicate 30 5) ∷ [])

abbrev pub suffixes_in : List Entry → List Suffix
suffixes_in entries = map (λ (e : Entry). (nibbles_of e.0, e.1)) entries

abbrev pub keys_in : List Entry → List (List ℕ)
keys_in entries = map (λ (e : Entry). e.0) entries

abbrev pub paths_of : List PathNode → List (List ℕ)
paths_of nodes = map (λ (n : PathNode). n.path) nodes
