-- What a job represents that reads a key's value node by node.
use Rattle.std.specs.Prelude.{◌≡◌, true, ℕ, List, [], ◌∷◌, ◌++◌, drop, All, Option, Some, None}
use Rattle.std.specs.Option.{option_map}
use Rattle.std.specs.FinMap.{entries, get}
use Rattle.sdb_base.specs.Nibbles.{nibbles_of}
use Rattle.sdb_base.specs.declared.node.NodeHash.{NodeHash}
use Rattle.sdb_blake2.specs.Blake2b.{H}
use Rattle.trie_model.specs.Node.{spelling}
use Rattle.trie_model.specs.Nodes.{PathNode, is_stored}
use Rattle.trie_model.specs.State.{State}
use Rattle.trie_model.specs.Trie.{suffixes_of}
use Rattle.trie_root.specs.Suffixes.{IsEntry}
use Rattle.trie_read.specs.Paths.{node_at}
use Rattle.trie_read.specs.inner.Following.{AreOnTheWay}
use Rattle.trie_read.specs.declared.fault.TrieFault.{TrieFault}
use Rattle.trie_read.specs.declared.fault.TrieFault.TheVariants.{BadNode, OutOfMemory}
use Rattle.trie_read.specs.declared.read_job.ReadJob.{ReadJob}

-- the hash that is wanted
abbrev pub wanted_of : ReadJob → Option (List ℕ)
wanted_of j = option_map (λ (h : NodeHash). h.0) j.wanted

-- after how many nibbles of its key the wanted node hangs
abbrev pub nibbles_before : ReadJob → ℕ
nibbles_before j = j.at

-- a bad node is that of the wanted hash
abbrev pub MatchFault : TrieFault → Type 0 → Type 0 → Option (List ℕ) → Type 0
MatchFault (BadNode hash) Bad Good wanted = Bad × (wanted ≡ Some hash.0)
MatchFault OutOfMemory Bad Good wanted = Good

-- it waits for a node on the way of its key, after which the others come
pub record WaitsFor (j : ReadJob) (m : State) (n : PathNode) (others : List PathNode) : Type 0 where
  pub wanted : wanted_of j ≡ Some (H n.bytes)
  pub whole : nibbles_of j.key ≡ n.path ++ drop j.at (nibbles_of j.key)
  pub bytes : n.bytes ≡ spelling (node_at (suffixes_of m) n.path)
  pub stored : is_stored n ≡ true
  pub nodes : AreOnTheWay (suffixes_of m) n.path (drop j.at (nibbles_of j.key)) (n ∷ others)

abbrev pub IsStage : ReadJob → State → List PathNode → Type 0
IsStage j m [] = (j.wanted ≡ None) × (j.value ≡ get m j.key)
IsStage j m (n ∷ others) = WaitsFor j m n others

-- the job reads the key of the state, and these nodes are still to be fed
pub record IsReading (j : ReadJob) (m : State) (of : List ℕ) (todo : List PathNode) : Type 0 where
  pub within : All IsEntry (entries m)
  pub key : j.key ≡ of
  pub stage : IsStage j m todo
