-- What a job represents that walks over keys node by node.
use Rattle.std.specs.Prelude.{◌≡◌, ℕ, List, [], ◌∷◌, All, Option, Some, None}
use Rattle.std.specs.Option.{option_map}
use Rattle.std.specs.FinMap.{entries}
use Rattle.sdb_base.specs.Nibbles.{nibbles_of}
use Rattle.sdb_blake2.specs.Blake2b.{H}
use Rattle.trie_model.specs.Fetches.{keys_with_prefix}
use Rattle.trie_model.specs.Nodes.{PathNode}
use Rattle.trie_model.specs.State.{State}
use Rattle.trie_model.specs.Trie.{suffixes_of}
use Rattle.trie_root.specs.Suffixes.{IsEntry}
use Rattle.trie_read.specs.inner.Parts.{StandFor, depth_of, goes_on_with, in_order, is_near}
use Rattle.trie_read.specs.declared.parts.Stored.{Stored}
use Rattle.trie_read.specs.declared.walk_job.WalkJob.{WalkJob}

-- the hash that is wanted
abbrev pub walk_wanted : WalkJob → Option (List ℕ)
walk_wanted j = option_map (λ (s : Stored). s.hash.0) j.wanted

-- after how many nibbles the wanted node hangs
abbrev pub walk_depth : WalkJob → ℕ
walk_depth j = depth_of j.wanted

-- the next node to be fed is wanted; where there is none, none is wanted, and no key is left to be found
abbrev pub IsWalkStage : WalkJob → List PathNode → Type 0
IsWalkStage j [] = (walk_wanted j ≡ None) × (j.later ≡ [])
IsWalkStage j (n ∷ todo) = walk_wanted j ≡ Some (H n.bytes)

-- The job walks over the state's keys with the prefix, and these nodes are still to be fed. The keys that it has found, and
-- those under the nodes that it knows of, are all of them in their order; the nodes under those are the ones to be fed.
pub record IsWalking (j : WalkJob) (m : State) (of : List ℕ) (todo : List PathNode) : Type 0 where
  pub within : All IsEntry (entries m)
  pub prefix : j.prefix ≡ nibbles_of of
  pub stands : StandFor (suffixes_of m) (goes_on_with (nibbles_of of)) (is_near (nibbles_of of)) (in_order j.found j.wanted j.later) (keys_with_prefix m of) todo
  pub stage : IsWalkStage j todo
