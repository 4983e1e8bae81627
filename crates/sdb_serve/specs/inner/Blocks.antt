-- The map of the accepted blocks, and the commits of their states' nodes.
use Rattle.std.specs.Prelude.{◌≡◌, ◌<◌, ℕ, All, Any, nat_lt, List, [], ◌∷◌, ◌++◌, slice_index, slice_set, length, if◌then◌else◌, Some}
use Rattle.std.specs.Option.{option_map}
use Rattle.std.specs.Ordering.{nat_cmp}
use Rattle.std.specs.declared.cmp.Ordering.{Ordering}
use Rattle.std.specs.Cmp.Lexicographic.{slice_cmp}
use Rattle.std.specs.BTreeMap.{get}
use Rattle.std.specs.FinMap.{entries}
use Rattle.sdb_base.specs.Keeping.{AddsNode, Commits, operations}
use Rattle.sdb_base.specs.declared.Block.{Block}
use Rattle.sdb_base.specs.declared.BlockId.{BlockId}
use Rattle.sdb_base.specs.declared.node.Node.{Node}
use Rattle.sdb_model.specs.Blocks.{AreBlocks, count_at, number_of, state_of}
use Rattle.sdb_blake2.specs.Blake2b.{H}
use Rattle.sdb_model.specs.Clear.{Clear, IsStoredNode}
use Rattle.sdb_model.specs.declared.Reply.{Reply}
use Rattle.sdb_model.specs.declared.Reply.TheVariants.{Imported, Value, Key, Nothing, Listed, Root, Refused}
use Rattle.sdb_model.specs.State.{State}
use Rattle.trie_model.specs.Trie.{trie_root}
use Rattle.trie_root.specs.Suffixes.{IsEntry}
use Rattle.sdb_serve.specs.BlockCommits.{commits_of, references_to}
use Rattle.sdb_serve.specs.inner.Kept.{HasNodes}
use Rattle.sdb_serve.specs.declared.blocks.BlockMap.{BlockMap}
use Rattle.sdb_serve.specs.declared.blocks.BlockEntry.{BlockEntry}

-- ids in the order of their bytes
abbrev pub id_cmp : BlockId → BlockId → Ordering
id_cmp a b = slice_cmp nat_cmp a.0 b.0

-- the levels with this count at a number, which they have or which is the next
abbrev pub with_level : List ℕ → ℕ → ℕ → List ℕ
with_level levels n count = if nat_lt n (length levels) then slice_set levels n count else levels ++ count ∷ []

-- one commit more, of references to some nodes
abbrev pub IsOneMore : Commits → Commits → Type 0
IsOneMore commits next = (puts : List Node) × (next ≡ commits ++ references_to puts ∷ [])

-- the commits after that reply to an import
abbrev pub IsNextHistory : Reply → Commits → Commits → Type 0
IsNextHistory (Imported n) commits next = IsOneMore commits next
IsNextHistory (Value value) commits next = next ≡ commits
IsNextHistory (Key key) commits next = next ≡ commits
IsNextHistory Nothing commits next = next ≡ commits
IsNextHistory (Listed keys) commits next = next ≡ commits
IsNextHistory (Root root) commits next = next ≡ commits
IsNextHistory (Refused refusal) commits next = next ≡ commits

-- What is kept of the blocks' states, where no two different nodes of theirs have one hash: each block's root; the commits are
-- the blocks'; after them all its stored nodes are there, and each reference is to a stored node under its hash.
pub record KeepsStates {K : Type 0} (m : BlockMap K) (blocks : List Block) (commits : Commits) : Type 0 where
  pub roots : (id : BlockId) (k : BlockEntry) (state : State) → get id_cmp m.blocks id ≡ Some k → state_of blocks id ≡ Some state → k.root.0 ≡ trie_root state
  pub commits_are : commits ≡ commits_of blocks
  pub nodes : (id : BlockId) (state : State) → state_of blocks id ≡ Some state → HasNodes commits state
  pub only : (key bytes : List ℕ) → Any (AddsNode key bytes) (operations commits) → (key ≡ H bytes) × IsStoredNode blocks bytes

-- two maps have the same entries and levels
pub record IsSameMap {K : Type 0} (a b : BlockMap K) : Type 0 where
  pub entries : (id : BlockId) → get id_cmp b.blocks id ≡ get id_cmp a.blocks id
  pub levels : b.levels.items ≡ a.levels.items

-- The map represents these blocks: for each id the block's number and root, or nothing where no block has it, and for each
-- number how many blocks have it.
pub record RepresentsBlocks {K : Type 0} (m : BlockMap K) (blocks : List Block) : Type 0 where
  pub tree : AreBlocks blocks
  pub numbers : (id : BlockId) → option_map (λ (k : BlockEntry). k.number) (get id_cmp m.blocks id) ≡ number_of blocks id
  pub entries_are : (id : BlockId) (state : State) → state_of blocks id ≡ Some state → All IsEntry (entries state)
  pub levels : (n : ℕ) → slice_index m.levels.items n ≡ count_at blocks n
  pub below : (id : BlockId) (n : ℕ) → number_of blocks id ≡ Some n → n < length m.levels.items
  pub none : blocks ≡ [] → m.levels.items ≡ []

-- The map represents these blocks over a keeper that stands for these commits, which keep the blocks' states.
pub record KeepsBlocks {K : Type 0} (stands : K → Commits → Type 0) (m : BlockMap K) (blocks : List Block) (commits : Commits) : Type 0 where
  pub represents : RepresentsBlocks m blocks
  pub keeper : stands m.keeper commits
  pub states : Clear blocks → KeepsStates m blocks commits
