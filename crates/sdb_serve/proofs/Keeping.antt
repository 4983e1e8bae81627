-- What the map after one more block represents.
use Rattle.std.proofs.Common.{◌≡◌, ℕ, ◌+◌, ◌-◌, ◌<◌, ◌≤◌, ◌==◌, Bool, true, false, cond, List, [], ◌∷◌, ◌++◌, length, get_or, Option, Some, None, is_some, refl, sym, ap, subst, ◌∙◌, arith}
use Rattle.std.specs.BTreeMap.{Updates, get, is_at}
use Rattle.std.specs.List.{flat_map}
use Rattle.std.specs.Map.{lookup}
use Rattle.std.specs.Option.{option_map}
use Rattle.std.proofs.lemmas.Option.{none-some, same_Some}
use Rattle.std.proofs.lemmas.Grind.{common_steps}
use Rattle.std.proofs.lemmas.Map.Text.{is_eq-slice_cmp}
use Rattle.sdb_base.specs.declared.Block.{Block}
use Rattle.sdb_base.specs.declared.BlockId.{BlockId}
use Rattle.std.specs.FinMap.{entries}
use Rattle.std.specs.Prelude.{All, Any}
use Rattle.sdb_base.specs.Keeping.{AddsNode, Commits}
use Rattle.sdb_base.specs.declared.op.Op.{Op}
use Rattle.sdb_base.specs.declared.node.Node.{Node}
use Rattle.sdb_model.specs.Clear.{Clear}
use Rattle.sdb_model.specs.State.{State, apply, no_keys}
use Rattle.sdb_model.specs.Blocks.{chain_of, same_id, state_of}
use Rattle.sdb_model.proofs.Counts.{IsAdded, is_some-option_map, newest_has_number}
use Rattle.sdb_model.proofs.Chains.{chain-none}
use Rattle.trie_root.specs.Suffixes.{IsEntry}
use Rattle.sdb_serve.specs.BlockCommits.{commits_of, references_to}
use Rattle.sdb_serve.specs.inner.Blocks.{IsSameMap, KeepsBlocks, KeepsStates, RepresentsBlocks, id_cmp, with_level}
use Rattle.sdb_serve.proofs.KeptChanges.{LeadsTo}
use Rattle.sdb_serve.proofs.KeptStates.{clear_before, keeps_states}
use Rattle.sdb_serve.specs.declared.blocks.BlockMap.{BlockMap}
use Rattle.sdb_serve.specs.declared.blocks.BlockEntry.{BlockEntry}

mapped_test : {A B : Type 0} (f : A → B) (t : Bool) (x : A) (o : Option A) → option_map f (cond t (Some x) o) ≡ cond t (Some (f x)) (option_map f o)
mapped_test f true x o = refl
mapped_test f false x o = refl

-- what the ids find after one more
found_after : {A K : Type 0} (f : BlockEntry → A) (m n : BlockMap K) (b : Block) (entry : BlockEntry) → Updates id_cmp m.blocks n.blocks b.id (Some entry)
    → (id : BlockId) → option_map f (get id_cmp n.blocks id) ≡ cond (same_id b.id id) (Some (f entry)) (option_map f (get id_cmp m.blocks id))
found_after f m n b entry after id =
    ap (option_map f) (after.0 id) ∙ mapped_test f (is_at (id_cmp b.id) id) entry (get id_cmp m.blocks id)
    ∙ ap (λ t. cond t (Some (f entry)) (option_map f (get id_cmp m.blocks id))) (is_eq-slice_cmp b.id.0 id.0)

-- one more at a level
level_after : (levels : List ℕ) (n k : ℕ) → n ≤ length levels
    → get_or (with_level levels n (get_or levels n 0 + 1)) k 0 ≡ cond (n == k) 1 0 + get_or levels k 0
level_after levels n k at_most = grind (arith, common_steps)

longer_after : (levels : List ℕ) (n count : ℕ) → n ≤ length levels
    → (n < length (with_level levels n count)) × (length levels ≤ length (with_level levels n count))
longer_after levels n count at_most = grind (arith, common_steps)

number_below : (t : Bool) (n k l l' : ℕ) (o : Option ℕ) → cond t (Some n) o ≡ Some k → n < l' → l ≤ l' → (o ≡ Some k → k < l) → k < l'
number_below true n k l l' o e here longer before = let same = same_Some n k e in omega arith
number_below false n k l l' o e here longer before = let there = before e in omega arith

pub no_value : {A : Type 0} (o : Option A) → is_some o ≡ false → o ≡ None
no_value None e = refl
no_value (Some x) e = cc

abbrev pub state_in : List Block → State
state_in chain = apply no_keys (flat_map (λ (b : Block). b.changes) chain)

-- an id has an entry exactly where a block has it
pub entry_has_chain : {K : Type 0} (m : BlockMap K) (blocks : List Block) (id : BlockId) → RepresentsBlocks m blocks → is_some (get id_cmp m.blocks id) ≡ is_some (chain_of blocks id)
entry_has_chain m blocks id represents =
    sym (is_some-option_map (λ (k : BlockEntry). k.number) (get id_cmp m.blocks id)) ∙ ap is_some (represents.numbers id)
    ∙ is_some-option_map (λ (chain : List Block). length chain - 1) (chain_of blocks id)

module _ {K : Type 0} (m n : BlockMap K) (older : List Block) (b : Block) (entry : BlockEntry) (state : State) (before : RepresentsBlocks m older)
    (added : IsAdded older b entry.number state) (fresh : state_of older b.id ≡ None) (within : All IsEntry (entries state)) where
  entries_after : (id : BlockId) (s : State) → state_of (b ∷ older) id ≡ Some s → All IsEntry (entries s)
  entries_after id s e = by_test (same_id b.id id) refl
    where
      by_test : (t : Bool) → same_id b.id id ≡ t → All IsEntry (entries s)
      by_test true is =
          let same : state ≡ s = same_Some state s (sym (added.states id ∙ ap (λ t. cond t (Some state) (state_of older id)) is) ∙ e) in
          subst (λ (s : State). All IsEntry (entries s)) same within
      by_test false is = before.entries_are id s (sym (added.states id ∙ ap (λ t. cond t (Some state) (state_of older id)) is) ∙ e)

  pub represents_added : entry.number ≤ length m.levels.items → Updates id_cmp m.blocks n.blocks b.id (Some entry)
      → n.levels.items ≡ with_level m.levels.items entry.number (get_or m.levels.items entry.number 0 + 1) → RepresentsBlocks n (b ∷ older)
  represents_added at_most found levels =
      let longer = longer_after m.levels.items entry.number (get_or m.levels.items entry.number 0 + 1) at_most in
      record {
        tree = added.tree;
        numbers = λ id. found_after (λ (k : BlockEntry). k.number) m n b entry found id
            ∙ ap (cond (same_id b.id id) (Some entry.number)) (before.numbers id) ∙ sym (added.numbers id);
        entries_are = entries_after;
        levels = λ k. ap (λ xs. get_or xs k 0) levels ∙ level_after m.levels.items entry.number k at_most
            ∙ ap (λ i. cond (entry.number == k) 1 0 + i) (before.levels k) ∙ sym (added.counts k);
        below = λ id k e. subst (λ xs. k < length xs) (sym levels) (number_below (same_id b.id id) entry.number k _ _ _ (sym (added.numbers id) ∙ e) longer.0 longer.1 (before.below id k));
        none = λ e. cc;
      }

  -- and it keeps their states, where the keeper stands for one commit more
  pub keeps_added : (stands : K → Commits → Type 0) (commits : Commits) (nodes : List Node) → Updates id_cmp m.blocks n.blocks b.id (Some entry) → RepresentsBlocks n (b ∷ older)
      → stands n.keeper (commits ++ references_to nodes ∷ []) → (Clear older → KeepsStates m older commits)
      → (Clear older → KeepsStates m older commits → LeadsTo commits state entry.root.0 nodes × (commits ++ references_to nodes ∷ [] ≡ commits_of (b ∷ older)))
      → KeepsBlocks stands n (b ∷ older) (commits ++ references_to nodes ∷ [])
  keeps_added stands commits nodes found represents at kept leads = record {
    represents = represents;
    keeper = at;
    states = λ clear.
        let was_clear = clear_before older b state fresh added.states clear in
        let was_kept = kept was_clear in
        let lead = leads was_clear was_kept in
        keeps_states older b state fresh added.states m n entry commits nodes clear was_kept lead.0 found lead.1;
  }

no_commits : [] ≡ commits_of []
unfolding commits_of
no_commits = refl

pub no_state : (id : BlockId) → state_of [] id ≡ None
no_state id = ap (option_map state_in) (chain-none id)

-- an empty map represents no blocks, and only those
pub represents_nothing : {K : Type 0} (m : BlockMap K) → m.blocks.entries ≡ [] → m.levels.items ≡ [] → RepresentsBlocks m []
represents_nothing m none no_level = record {
  tree = tt;
  numbers = λ id. ap (λ es. option_map (λ (k : BlockEntry). k.number) (lookup (is_at (id_cmp id)) es)) none
      ∙ sym (ap (option_map (λ (chain : List Block). length chain - 1)) (chain-none id));
  entries_are = λ id s e. absurd (none-some s (sym (no_state id) ∙ e));
  levels = λ n. ap (λ xs. get_or xs n 0) no_level;
  below = λ id n e. absurd (none-some n (sym (ap (option_map (λ (chain : List Block). length chain - 1)) (chain-none id)) ∙ e));
  none = λ _. no_level;
}

nothing_added : (P : Op → Type 0) → Any P [] → ⊥
nothing_added P a = let h : a.0 < 0 = a.2 in omega arith

pub keeps_nothing : {K : Type 0} (stands : K → Commits → Type 0) (m : BlockMap K) → RepresentsBlocks m [] → stands m.keeper [] → KeepsBlocks stands m [] []
keeps_nothing stands m represents at = record {
  represents = represents;
  keeper = at;
  states = λ clear. record {
    roots = λ id k s at e. absurd (none-some s (sym (no_state id) ∙ e));
    commits_are = no_commits;
    nodes = λ id s e. absurd (none-some s (sym (no_state id) ∙ e));
    only = λ key bytes a. absurd (nothing_added (AddsNode key bytes) a);
  };
}

-- an id has no entry where there are no blocks
pub no_entry : {K : Type 0} (m : BlockMap K) (id : BlockId) → RepresentsBlocks m [] → get id_cmp m.blocks id ≡ None
no_entry m id r = no_value (get id_cmp m.blocks id) (entry_has_chain m [] id r ∙ ap is_some (chain-none id))

pub no_levels : {K : Type 0} (m : BlockMap K) (blocks : List Block) → RepresentsBlocks m blocks → length m.levels.items ≡ 0 → blocks ≡ []
no_levels m [] represents e = refl
no_levels m (b ∷ older) represents e =
    let newest = newest_has_number b older represents.tree in
    let less = represents.below b.id newest.0 newest.1 in
    absurd (omega arith)

-- the same entries and levels, over a keeper that stands for the same commits
pub represents_same : {K : Type 0} (m n : BlockMap K) (blocks : List Block) → IsSameMap m n → RepresentsBlocks m blocks → RepresentsBlocks n blocks
represents_same m n blocks same r = record {
  tree = r.tree;
  numbers = λ id. ap (option_map (λ (k : BlockEntry). k.number)) (same.entries id) ∙ r.numbers id;
  entries_are = r.entries_are;
  levels = λ k. ap (λ xs. get_or xs k 0) same.levels ∙ r.levels k;
  below = λ id k e. let less = r.below id k e in subst (λ xs. k < length xs) (sym same.levels) less;
  none = λ e. same.levels ∙ r.none e;
}

pub keeps_same : {K : Type 0} (stands : K → Commits → Type 0) (m n : BlockMap K) (blocks : List Block) (commits : Commits) → IsSameMap m n
    → (stands m.keeper commits → stands n.keeper commits) → KeepsBlocks stands m blocks commits → KeepsBlocks stands n blocks commits
keeps_same stands m n blocks commits same still r = record {
  represents = represents_same m n blocks same r.represents;
  keeper = still r.keeper;
  states = λ clear. let kept = r.states clear in record {
    roots = λ id k s at e. kept.roots id k s (sym (same.entries id) ∙ at) e;
    commits_are = kept.commits_are;
    nodes = kept.nodes;
    only = kept.only;
  };
}

pub added_as : (older : List Block) (b : Block) (n n' : ℕ) (s s' : State) → IsAdded older b n s → n' ≡ n → s' ≡ s → IsAdded older b n' s'
added_as older b n n' s s' added e f = subst (λ k. IsAdded older b k s') (sym e) (subst (λ t. IsAdded older b n t) (sym f) added)
