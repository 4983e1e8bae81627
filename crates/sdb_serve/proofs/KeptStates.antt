-- What is kept of the states after one more block.
use Rattle.std.proofs.Common.{◌≡◌, ℕ, Bool, true, false, cond, List, [], ◌∷◌, ◌++◌, map, Some, None, refl, ap, subst, sym, ◌∙◌, inl, inr}
use Rattle.std.specs.BTreeMap.{Updates, get}
use Rattle.std.specs.Prelude.{Any, Contains}
use Rattle.std.proofs.lemmas.Map.Text.{is_eq-slice_cmp}
use Rattle.std.proofs.lemmas.Option.{none-some, same_Some}
use Rattle.std.proofs.lemmas.Slice.Eq.{bytes_eq-Decides}
use Rattle.sdb_base.specs.Content.{Counted, node_under}
use Rattle.sdb_base.specs.Keeping.{AddsNode, Commits, operations}
use Rattle.sdb_base.specs.declared.Block.{Block}
use Rattle.sdb_base.specs.declared.BlockId.{BlockId}
use Rattle.sdb_base.specs.declared.node.Node.{Node}
use Rattle.sdb_blake2.specs.Blake2b.{H}
use Rattle.sdb_model.specs.Blocks.{same_id, state_of}
use Rattle.sdb_model.specs.Clear.{Clear, IsStoredNode}
use Rattle.sdb_model.proofs.Chains.{same_id-refl}
use Rattle.trie_change.specs.Deltas.{hashed}
use Rattle.trie_model.specs.Nodes.{PathNode, stored_nodes}
use Rattle.trie_model.specs.State.{State}
use Rattle.trie_model.specs.Trie.{trie_root}
use Rattle.trie_read.proofs.Among.{Among, among_from, contains_from}
use Rattle.sdb_serve.specs.BlockCommits.{commits_of, references_to}
use Rattle.sdb_serve.specs.inner.Blocks.{KeepsStates, id_cmp}
use Rattle.sdb_serve.specs.inner.Kept.{AddsAlike, HasNodes, IsKept}
use Rattle.sdb_serve.proofs.AddedNodes.{added_by, was_added}
use Rattle.sdb_serve.proofs.KeptNodes.{AddsNodes, adds_nodes}
use Rattle.sdb_serve.specs.declared.blocks.BlockEntry.{BlockEntry}
use Rattle.sdb_serve.specs.declared.blocks.BlockMap.{BlockMap}
use Rattle.sdb_serve.proofs.KeptChanges.{LeadsTo}

-- a node among hashed ones is one of those that were hashed
from_hashed : (o : Node) (ns : List PathNode) → Among o (map hashed ns) → (n : PathNode) × Among n ns × (hashed n ≡ o)
from_hashed o [] a = absurd a
from_hashed o (n ∷ ns) (inl e) = (n, inl refl, e)
from_hashed o (n ∷ ns) (inr a) = let more = from_hashed o ns a in (more.0, inr more.1, more.2)

to_hashed : (n : PathNode) (ns : List PathNode) → Among n ns → Among (hashed n) (map hashed ns)
to_hashed n [] a = absurd a
to_hashed n (o ∷ ns) (inl e) = inl (ap hashed e)
to_hashed n (o ∷ ns) (inr a) = inr (to_hashed n ns a)

-- ---- which nodes are stored

module _ (older : List Block) (b : Block) (state : State) (fresh : state_of older b.id ≡ None)
    (states : (id : BlockId) → state_of (b ∷ older) id ≡ cond (same_id b.id id) (Some state) (state_of older id)) where
  differs : (id : BlockId) (s : State) → state_of older id ≡ Some s → same_id b.id id ≡ false
  differs id s e = by_test (same_id b.id id) refl
    where
      by_test : (t : Bool) → same_id b.id id ≡ t → t ≡ false
      by_test false is = refl
      by_test true is =
          let same : b.id.0 ≡ id.0 = (bytes_eq-Decides b.id.0 id.0).0 is in
          absurd (none-some s (sym fresh ∙ ap (λ (q : List ℕ). state_of older (record { 0 = q })) same ∙ e))

  stays_older : (id : BlockId) (s : State) → state_of older id ≡ Some s → state_of (b ∷ older) id ≡ Some s
  stays_older id s e = states id ∙ ap (λ t. cond t (Some state) (state_of older id)) (differs id s e) ∙ e

  still_stored : (bytes : List ℕ) → IsStoredNode older bytes → IsStoredNode (b ∷ older) bytes
  still_stored bytes s = record { id = s.id; state = s.state; of_block = stays_older s.id s.state s.of_block; node = s.node; stored = s.stored; same = s.same }

  pub clear_before : Clear (b ∷ older) → Clear older
  clear_before clear x y p q = clear x y (still_stored x p) (still_stored y q)

  own_stored : (n : PathNode) → Among n (stored_nodes state) → IsStoredNode (b ∷ older) n.bytes
  own_stored n a = record {
    id = b.id;
    state = state;
    of_block = states b.id ∙ ap (λ t. cond t (Some state) (state_of older b.id)) (same_id-refl b.id);
    node = n;
    stored = contains_from n (stored_nodes state) a;
    same = refl;
  }

  -- ---- which are kept

  module _ {K : Type 0} (m n : BlockMap K) (entry : BlockEntry) (commits : Commits) (nodes : List Node) (clear : Clear (b ∷ older)) (before : KeepsStates m older commits)
      (leads : LeadsTo commits state entry.root.0 nodes) (found : Updates id_cmp m.blocks n.blocks b.id (Some entry))
      (next_are : commits ++ references_to nodes ∷ [] ≡ commits_of (b ∷ older)) where
    abbrev next : Commits
    next = commits ++ references_to nodes ∷ []

    adds : AddsNodes commits nodes
    adds = adds_nodes commits nodes

    only_such : (key bytes : List ℕ) → Any (AddsNode key bytes) (operations next) → (key ≡ H bytes) × IsStoredNode (b ∷ older) bytes
    only_such key bytes a = elim (added_by commits nodes key bytes a) [
      | inl old ↦ let was = before.only key bytes old in (was.0, still_stored bytes was.1)
      | inr put ↦
          let from = from_hashed put.0 leads.puts (subst (λ (ns : List Node). Among put.0 ns) leads.puts_are put.1) in
          let hash : H from.0.bytes ≡ key = ap (λ (o : Node). o.hash.0) from.2 ∙ put.2 in
          let same : from.0.bytes ≡ bytes = ap (λ (o : Node). o.bytes) from.2 ∙ put.3 in
          subst (λ (bs : List ℕ). (key ≡ H bs) × IsStoredNode (b ∷ older) bs) same (sym hash, own_stored from.0 (leads.stored from.0 from.1))
    ]

    -- what is under the hash of a stored node's bytes is these bytes
    kept_there : (bytes : List ℕ) (c : Counted) → IsStoredNode (b ∷ older) bytes → node_under (operations next) (H bytes) ≡ Some c → IsKept next bytes
    kept_there bytes c stored e =
        let such = only_such (H bytes) c.bytes (was_added (H bytes) (operations next) c e) in
        (c, e, clear c.bytes bytes such.1 stored (sym such.0))

    still_kept : (bytes : List ℕ) → IsKept commits bytes → IsKept next bytes
    still_kept bytes k = let s = adds.still (H bytes) k.0 k.1 in (s.0, s.1, s.2 ∙ k.2)

    own_kept : (o : PathNode) → Among o (stored_nodes state) → IsKept next o.bytes
    own_kept o a = elim (leads.covers o a) [
      | inl old ↦ still_kept o.bytes old
      | inr put ↦
          let there : Contains nodes (hashed o) = contains_from (hashed o) nodes (subst (λ (ns : List Node). Among (hashed o) ns) (sym leads.puts_are) (to_hashed o leads.puts put)) in
          let c = adds.each (hashed o) there in
          kept_there o.bytes c.0 (own_stored o a) c.1
    ]

    has_nodes : (id : BlockId) (s : State) → state_of (b ∷ older) id ≡ Some s → HasNodes next s
    has_nodes id s e = by_test (same_id b.id id) refl
      where
        by_test : (t : Bool) → same_id b.id id ≡ t → HasNodes next s
        by_test true is =
            let same : state ≡ s = same_Some state s (sym (states id ∙ ap (λ t. cond t (Some state) (state_of older id)) is) ∙ e) in
            subst (λ (s : State). HasNodes next s) same (λ o c. own_kept o (among_from o (stored_nodes state) c))
        by_test false is =
            let old : state_of older id ≡ Some s = sym (states id ∙ ap (λ t. cond t (Some state) (state_of older id)) is) ∙ e in
            λ o c. still_kept o.bytes (before.nodes id s old o c)

    roots_are : (id : BlockId) (k : BlockEntry) (s : State) → get id_cmp n.blocks id ≡ Some k → state_of (b ∷ older) id ≡ Some s → k.root.0 ≡ trie_root s
    roots_are id k s at e = by_test (same_id b.id id) refl
      where
        entry_at : get id_cmp n.blocks id ≡ cond (same_id b.id id) (Some entry) (get id_cmp m.blocks id)
        entry_at = found.0 id ∙ ap (λ t. cond t (Some entry) (get id_cmp m.blocks id)) (is_eq-slice_cmp b.id.0 id.0)

        by_test : (t : Bool) → same_id b.id id ≡ t → k.root.0 ≡ trie_root s
        by_test true is =
            let same : state ≡ s = same_Some state s (sym (states id ∙ ap (λ t. cond t (Some state) (state_of older id)) is) ∙ e) in
            let here : entry ≡ k = same_Some entry k (sym (entry_at ∙ ap (λ t. cond t (Some entry) (get id_cmp m.blocks id)) is) ∙ at) in
            ap (λ (x : BlockEntry). x.root.0) (sym here) ∙ leads.root_is ∙ ap trie_root same
        by_test false is =
            before.roots id k s (sym (entry_at ∙ ap (λ t. cond t (Some entry) (get id_cmp m.blocks id)) is) ∙ at)
            (sym (states id ∙ ap (λ t. cond t (Some state) (state_of older id)) is) ∙ e)

    pub keeps_states : KeepsStates n (b ∷ older) next
    keeps_states = record { roots = roots_are; commits_are = next_are; nodes = has_nodes; only = only_such }

-- all references under a key carry the same bytes, where no two stored nodes have one hash
pub alike : {K : Type 0} (m : BlockMap K) (blocks : List Block) (commits : Commits) → Clear blocks → KeepsStates m blocks commits → (key : List ℕ) → AddsAlike commits key
alike m blocks commits clear kept key x y p q =
    let one = kept.only key x p in
    let two = kept.only key y q in
    clear x y one.1 two.1 (sym one.0 ∙ two.0)
