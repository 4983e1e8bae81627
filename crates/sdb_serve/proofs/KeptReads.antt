-- What a task on a block's state may be answered by what is kept of it.
use Rattle.std.proofs.Common.{◌≡◌, ℕ, true, false, List, Option, Some, None, is_some, refl, sym, ap, subst, ◌∙◌}
use Rattle.std.specs.BTreeMap.{get}
use Rattle.std.specs.FinMap as states
use Rattle.std.specs.Option.{option_map}
use Rattle.std.proofs.lemmas.Option.{none-some, same_Some}
use Rattle.sdb_base.specs.Keeping.{Commits}
use Rattle.sdb_base.specs.declared.Block.{Block}
use Rattle.sdb_base.specs.declared.BlockId.{BlockId}
use Rattle.sdb_base.specs.declared.NodeHash.{NodeHash}
use Rattle.sdb_model.proofs.Counts.{is_some-option_map}
use Rattle.sdb_model.specs.Blocks.{chain_of, state_of}
use Rattle.sdb_model.specs.Clear.{Clear}
use Rattle.sdb_model.specs.State.{State}
use Rattle.sdb_model.specs.declared.Reply.{Reply}
use Rattle.sdb_model.specs.declared.Reply.TheVariants.{Listed, Root}
use Rattle.sdb_model.specs.declared.Task.TheVariants as tasks
use Rattle.trie_model.specs.Fetches.{keys_with_prefix, next_key}
use Rattle.sdb_serve.specs.Jobs.{key_reply, list_reply, next_reply, read_reply, root_reply, value_reply}
use Rattle.sdb_serve.specs.Replies.{IsOfKind, IsOfTask}
use Rattle.sdb_serve.specs.inner.Blocks.{KeepsBlocks, KeepsStates, RepresentsBlocks, id_cmp}
use Rattle.sdb_serve.specs.inner.Kept.{IsKeptState}
use Rattle.sdb_serve.specs.declared.blocks.BlockEntry.{BlockEntry}
use Rattle.sdb_serve.specs.declared.blocks.BlockMap.{BlockMap}
use Rattle.sdb_serve.proofs.Keeping.{entry_has_chain, no_value}
use Rattle.sdb_serve.proofs.KeptStates.{alike}

-- a block has this state, whose root this is and whose nodes are kept
pub record IsKnown {K : Type 0} (m : BlockMap K) (blocks : List Block) (id : BlockId) (root : NodeHash) : Type 0 where
  pub state : State
  pub of_block : state_of blocks id ≡ Some state
  pub kept : (commits : Commits) → KeepsStates m blocks commits → Clear blocks → IsKeptState commits root.0 state

some_value : {A : Type 0} (o : Option A) → is_some o ≡ true → (x : A) × (o ≡ Some x)
some_value None e = absurd cc
some_value (Some x) e = (x, refl)

module _ {K : Type 0} (m : BlockMap K) (blocks : List Block) (id : BlockId) (r : RepresentsBlocks m blocks) where
  known_as : is_some (get id_cmp m.blocks id) ≡ is_some (state_of blocks id)
  known_as = entry_has_chain m blocks id r ∙ sym (is_some-option_map _ (chain_of blocks id))

  pub unknown : None ≡ option_map (λ (k : BlockEntry). k.root) (get id_cmp m.blocks id) → state_of blocks id ≡ None
  unknown e =
      let none : is_some (get id_cmp m.blocks id) ≡ false = sym (ap is_some e ∙ is_some-option_map (λ (k : BlockEntry). k.root) (get id_cmp m.blocks id)) in
      no_value (state_of blocks id) (sym known_as ∙ none)

  at_entry : (root : NodeHash) (o : Option BlockEntry) → get id_cmp m.blocks id ≡ o → Some root ≡ option_map (λ (k : BlockEntry). k.root) o → IsKnown m blocks id root
  at_entry root None at e = absurd (none-some root (sym e))
  at_entry root (Some k) at e =
      let there = some_value (state_of blocks id) (sym known_as ∙ ap is_some at) in
      let same : root ≡ k.root = same_Some root k.root e in
      record {
        state = there.0;
        of_block = there.1;
        kept = λ commits kept clear. record {
          entries_are = r.entries_are id there.0 there.1;
          root_is = ap (λ (h : NodeHash). h.0) same ∙ kept.roots id k there.0 at there.1;
          nodes = kept.nodes id there.0 there.1;
          alike = alike m blocks commits clear kept;
        };
      }

  pub known : (root : NodeHash) → Some root ≡ option_map (λ (k : BlockEntry). k.root) (get id_cmp m.blocks id) → IsKnown m blocks id root
  known root e = at_entry root (get id_cmp m.blocks id) refl e

-- ---- replies

module _ {K : Type 0} (m : BlockMap K) (blocks : List Block) (id : BlockId) (root : NodeHash) (is : IsKnown m blocks id root) where
  pub read_kind : (key : List ℕ) (reply : Reply) → IsOfTask (tasks.Read id key) reply → IsOfKind (tasks.Read id key) (read_reply (state_of blocks id) key) reply
  read_kind key reply of = subst (λ (o : Option State). IsOfKind (tasks.Read id key) (read_reply o key) reply) (sym is.of_block) (by_value (states.get is.state key))
    where
      by_value : (o : Option (List ℕ)) → IsOfKind (tasks.Read id key) (value_reply o) reply
      by_value None = of
      by_value (Some value) = of

  pub read_same : (key : List ℕ) (o : Option (List ℕ)) → o ≡ states.get is.state key → value_reply o ≡ read_reply (state_of blocks id) key
  read_same key o e = ap value_reply e ∙ ap (λ (s : Option State). read_reply s key) (sym is.of_block)

  pub next_kind : (key : List ℕ) (reply : Reply) → IsOfTask (tasks.Next id key) reply → IsOfKind (tasks.Next id key) (next_reply (state_of blocks id) key) reply
  next_kind key reply of = subst (λ (o : Option State). IsOfKind (tasks.Next id key) (next_reply o key) reply) (sym is.of_block) (by_value (next_key is.state key))
    where
      by_value : (o : Option (List ℕ)) → IsOfKind (tasks.Next id key) (key_reply o) reply
      by_value None = of
      by_value (Some value) = of

  pub next_same : (key : List ℕ) (o : Option (List ℕ)) → o ≡ next_key is.state key → key_reply o ≡ next_reply (state_of blocks id) key
  next_same key o e = ap key_reply e ∙ ap (λ (s : Option State). next_reply s key) (sym is.of_block)

  pub list_kind : (prefix : List ℕ) (keys : List (List ℕ)) → IsOfKind (tasks.List id prefix) (list_reply (state_of blocks id) prefix) (Listed keys)
  list_kind prefix keys = subst (λ (o : Option State). IsOfKind (tasks.List id prefix) (list_reply o prefix) (Listed keys)) (sym is.of_block) (keys, refl)

  pub list_same : (prefix : List ℕ) (keys : List (List ℕ)) → keys ≡ keys_with_prefix is.state prefix → Listed keys ≡ list_reply (state_of blocks id) prefix
  list_same prefix keys e = ap Listed e ∙ ap (λ (s : Option State). list_reply s prefix) (sym is.of_block)

  pub root_kind : IsOfKind (tasks.Root id) (root_reply (state_of blocks id)) (Root root)
  root_kind = subst (λ (o : Option State). IsOfKind (tasks.Root id) (root_reply o) (Root root)) (sym is.of_block) (root, refl)

  pub root_same : (stands : K → Commits → Type 0) (commits : Commits) → KeepsBlocks stands m blocks commits → Clear blocks → Root root ≡ root_reply (state_of blocks id)
  root_same stands commits keeps clear =
      ap (λ (h : List ℕ). Root (record { 0 = h })) (is.kept commits (keeps.states clear) clear).root_is ∙ ap root_reply (sym is.of_block)
