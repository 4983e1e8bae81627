-- What a job represents that searches for the least key above a key, node by node.
use Rattle.std.specs.Prelude.{◌≡◌, ◌||◌, Bool, ℕ, List, [], ◌∷◌, ◌++◌, All, filter, Option, Some, None}
use Rattle.std.specs.List.{flat_map}
use Rattle.std.specs.Option.{option_map}
use Rattle.std.specs.FinMap.{entries}
use Rattle.sdb_base.specs.Nibbles.{nibbles_of}
use Rattle.sdb_blake2.specs.Blake2b.{H}
use Rattle.trie_model.specs.Fetches.{keys_of_state, next_key, on_the_way, on_the_way_if}
use Rattle.trie_model.specs.Nodes.{PathNode}
use Rattle.trie_model.specs.State.{State}
use Rattle.trie_model.specs.Trie.{suffixes_of}
use Rattle.trie_root.specs.Suffixes.{IsEntry}
use Rattle.trie_read.specs.inner.Parts.{IsLed, HasSettled, Piece, StandFor, depth_of, in_front, is_above, keys_for, leads_above}
use Rattle.trie_read.specs.declared.next_job.NextJob.{NextJob}
use Rattle.trie_read.specs.declared.parts.Stored.{Stored}

-- the hash that is wanted
abbrev pub search_wanted : NextJob → Option (List ℕ)
search_wanted j = option_map (λ (s : Stored). s.hash.0) j.wanted

-- after how many nibbles the wanted node hangs
abbrev pub search_depth : NextJob → ℕ
search_depth j = depth_of j.wanted

-- a state's keys above a key, rising
abbrev pub keys_above : State → List ℕ → List (List ℕ)
keys_above m key = filter (is_above key) (keys_of_state m)

-- whether a node's path begins the key or the answer
abbrev pub is_for_next : State → List ℕ → PathNode → Bool
is_for_next m key n = on_the_way (nibbles_of key) n || on_the_way_if (next_key m key) n

-- the next node to be fed is wanted; where there is none, none is wanted, and what is nearest is a key or nothing
abbrev pub IsSearchStage : NextJob → List PathNode → Type 0
IsSearchStage j [] = (search_wanted j ≡ None) × HasSettled j.wanted j.nearest
IsSearchStage j (n ∷ todo) = search_wanted j ≡ Some (H n.bytes)

-- The job searches for the state's least key above a key, and these nodes are still to be fed. What it keeps is the front of
-- parts that stand for all keys above the key; the others were let go, since what it keeps has a key.
pub record IsSeeking (j : NextJob) (m : State) (of : List ℕ) (todo : List PathNode) : Type 0 where
  pub within : All IsEntry (entries m)
  pub key : j.key ≡ nibbles_of of
  pub others : List Piece
  pub nodes : List PathNode
  pub stands : StandFor (suffixes_of m) (is_above (nibbles_of of)) (leads_above (nibbles_of of)) (in_front j.wanted j.nearest ++ others) (keys_above m of) nodes
  pub led : IsLed (nibbles_of of) (in_front j.wanted j.nearest ++ others)
  pub enough : flat_map (keys_for (suffixes_of m) (is_above (nibbles_of of))) (in_front j.wanted j.nearest) ≡ [] → others ≡ []
  pub wants : filter (is_for_next m of) nodes ≡ todo
  pub stage : IsSearchStage j todo
