-- What the map represents after genesis and after an import.
use Rattle.std.proofs.Common.{◌≡◌, ℕ, ◌+◌, ◌<◌, false, List, [], ◌∷◌, ◌++◌, length, map, get_or, Some, None, is_some, refl, sym, ap, ◌∙◌, arith}
use Rattle.std.specs.BTreeMap.{Updates, get}
use Rattle.std.specs.FinMap.{entries}
use Rattle.std.specs.Option.{option_map}
use Rattle.std.specs.Prelude.{All}
use Rattle.std.proofs.lemmas.Option.{none-some}
use Rattle.sdb_base.specs.Keeping.{Commits}
use Rattle.sdb_base.specs.declared.Block.{Block}
use Rattle.sdb_base.specs.declared.node.Node.{Node}
use Rattle.sdb_base.specs.declared.node.NodeHash.{NodeHash}
use Rattle.sdb_model.proofs.Counts.{IsAdded, added_genesis, added_on}
use Rattle.sdb_model.specs.Blocks.{chain_of, number_of, state_of}
use Rattle.sdb_model.specs.State.{State, apply, no_keys}
use Rattle.sdb_script.specs.LineTexts.{IsBlock}
use Rattle.trie_change.proofs.AfterEntries.{none_within}
use Rattle.trie_change.specs.Deltas.{IsDelta, IsDeltaOf, hashed}
use Rattle.trie_change.specs.declared.delta.Delta.{Delta}
use Rattle.trie_model.specs.Nodes.{PathNode, put_nodes, stored_nodes}
use Rattle.trie_model.specs.Trie.{trie_root}
use Rattle.trie_root.specs.Suffixes.{IsEntry}
use Rattle.sdb_serve.specs.BlockCommits.{commit_of, commits_of, nodes_put_on, references_to}
use Rattle.sdb_serve.specs.inner.Blocks.{KeepsBlocks, RepresentsBlocks, id_cmp, with_level}
use Rattle.sdb_serve.specs.inner.Kept.{IsKeptState}
use Rattle.sdb_serve.specs.declared.blocks.BlockEntry.{BlockEntry}
use Rattle.sdb_serve.specs.declared.blocks.BlockMap.{BlockMap}
use Rattle.sdb_serve.proofs.Keeping.{added_as, entry_has_chain, keeps_added, no_state, no_value, represents_added, state_in}
use Rattle.sdb_serve.proofs.KeptChanges.{creation_leads, delta_leads}
use Rattle.sdb_serve.proofs.KeptEntries.{entries_after_block}
use Rattle.sdb_serve.proofs.KeptReads.{IsKnown, known}

-- the block's entry was added
pub record IsGrown {K : Type 0} (m n : BlockMap K) (b : Block) (number : ℕ) (root : NodeHash) : Type 0 where
  pub found : Updates id_cmp m.blocks n.blocks b.id (Some (record { number = number; root = root }))
  pub levels : n.levels.items ≡ with_level m.levels.items number (get_or m.levels.items number 0 + 1)

-- the commits of one block more on a parent of this state
history_more : (blocks : List Block) (b : Block) (state : State) → state_of blocks b.parent ≡ Some state
    → commits_of (b ∷ blocks) ≡ commits_of blocks ++ commit_of (put_nodes state (apply state b.changes)) ∷ []
unfolding commits_of
history_more [] b state e = absurd (none-some state (sym (no_state b.parent) ∙ e))
history_more (c ∷ older) b state e = ap (λ o. commits_of (c ∷ older) ++ commit_of (nodes_put_on o b) ∷ []) e

history_first : (b : Block) → commits_of (b ∷ []) ≡ commit_of (stored_nodes (apply no_keys b.changes)) ∷ []
unfolding commits_of
history_first b = refl

no_history : commits_of [] ≡ []
unfolding commits_of
no_history = refl

next_history : (commits before : Commits) (puts : List Node) (nodes : List PathNode) → commits ≡ before → puts ≡ map hashed nodes
    → commits ++ references_to puts ∷ [] ≡ before ++ commit_of nodes ∷ []
next_history commits before puts nodes e f = ap (λ (cs : Commits). cs ++ references_to puts ∷ []) e ∙ ap (λ (ps : List Node). before ++ references_to ps ∷ []) f

module _ {K : Type 0} (m n : BlockMap K) (b : Block) (delta : Delta) (represents : RepresentsBlocks m []) (is : IsBlock b) (grown : IsGrown m n b 0 delta.root) where
  pub represents_genesis : RepresentsBlocks n (b ∷ [])
  represents_genesis =
      represents_added m n [] b (record { number = 0; root = delta.root }) (apply no_keys b.changes) represents (added_genesis b) (no_state b.id)
      (entries_after_block no_keys b.changes none_within is.changes) (omega arith) grown.found grown.levels

  pub keeps_genesis : (stands : K → Commits → Type 0) (commits : Commits) → KeepsBlocks stands m [] commits → stands n.keeper (commits ++ references_to delta.puts ∷ [])
      → IsDeltaOf delta (trie_root (apply no_keys b.changes)) (stored_nodes (apply no_keys b.changes)) [] → KeepsBlocks stands n (b ∷ []) (commits ++ references_to delta.puts ∷ [])
  keeps_genesis stands commits keeps at made =
      let state : State = apply no_keys b.changes in
      keeps_added m n [] b (record { number = 0; root = delta.root }) state represents (added_genesis b) (no_state b.id)
      (entries_after_block no_keys b.changes none_within is.changes) stands commits delta.puts grown.found represents_genesis at keeps.states
      (λ clear kept. (
        creation_leads commits delta state made,
        next_history commits [] delta.puts (stored_nodes state) (kept.commits_are ∙ no_history) made.puts_are ∙ sym (history_first b),
      ))

module _ {K : Type 0} (m n : BlockMap K) (blocks : List Block) (b : Block) (parent : BlockEntry) (number : ℕ) (delta : Delta) (represents : RepresentsBlocks m blocks) (is : IsBlock b)
    (at_parent : get id_cmp m.blocks b.parent ≡ Some parent) (new : is_some (get id_cmp m.blocks b.id) ≡ false) (is_next : number ≡ parent.number + 1)
    (grown : IsGrown m n b number delta.root) where
  parent_number : number_of blocks b.parent ≡ Some parent.number
  parent_number = sym (represents.numbers b.parent) ∙ ap (option_map (λ (k : BlockEntry). k.number)) at_parent

  no_chain : chain_of blocks b.id ≡ None
  no_chain = no_value (chain_of blocks b.id) (sym (entry_has_chain m blocks b.id represents) ∙ new)

  before : IsKnown m blocks b.parent parent.root
  before = known m blocks b.parent represents parent.root (sym (ap (option_map (λ (k : BlockEntry). k.root)) at_parent))

  abbrev state : State
  state = apply before.state b.changes

  added : IsAdded blocks b number state
  added = added_as blocks b (parent.number + 1) number state state (added_on b blocks parent.number before.state represents.tree no_chain parent_number before.of_block) is_next refl

  fresh : state_of blocks b.id ≡ None
  fresh = ap (option_map state_in) no_chain

  within : All IsEntry (entries state)
  within = entries_after_block before.state b.changes (represents.entries_are b.parent before.state before.of_block) is.changes

  pub represents_imported : RepresentsBlocks n (b ∷ blocks)
  represents_imported =
      let less : parent.number < length m.levels.items = represents.below b.parent parent.number parent_number in
      represents_added m n blocks b (record { number = number; root = delta.root }) state represents added fresh within (omega arith) grown.found grown.levels

  pub keeps_imported : (stands : K → Commits → Type 0) (commits : Commits) → KeepsBlocks stands m blocks commits → stands n.keeper (commits ++ references_to delta.puts ∷ [])
      → ((s : State) → IsKeptState commits parent.root.0 s → IsDelta delta s (apply s b.changes)) → KeepsBlocks stands n (b ∷ blocks) (commits ++ references_to delta.puts ∷ [])
  keeps_imported stands commits keeps at made =
      keeps_added m n blocks b (record { number = number; root = delta.root }) state represents added fresh within stands commits delta.puts grown.found represents_imported at keeps.states
      (λ clear kept.
      let known_state = before.kept commits kept clear in
      let leads : IsDelta delta before.state state = made before.state known_state in (
        delta_leads commits delta before.state state known_state.nodes leads,
        next_history commits (commits_of blocks) delta.puts (put_nodes before.state state) kept.commits_are leads.puts_are ∙ sym (history_more blocks b before.state before.of_block),
      ))
