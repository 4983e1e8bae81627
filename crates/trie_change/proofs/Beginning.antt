-- A job before its first node.
use Rattle.std.proofs.Common.{◌≡◌, ℕ, true, false, List, [], ◌∷◌, map, reverse, Option, None, refl, ap, subst, sym, ◌∙◌, inl}
use Rattle.std.specs.Prelude.{◌||◌, All, filter, is_some}
use Rattle.std.specs.FinMap.{empty, entries, entries_sorted, find, get, get-entries}
use Rattle.std.specs.FinMap.Entries.{same_entries}
use Rattle.std.specs.List.{AllByRecursion, list_any}
use Rattle.std.specs.Str.{bytes_eq}
use Rattle.std.proofs.lemmas.Cmp.{nat_list_cmp_total}
use Rattle.std.proofs.lemmas.List.{append-nil}
use Rattle.std.proofs.lemmas.List.Sorted.{IsPermutation-refl}
use Rattle.std.proofs.lemmas.Slice.Eq.{bytes_eq-Decides}
use Rattle.sdb_base.specs.Nibbles.{nibbles_of}
use Rattle.sdb_base.specs.declared.Change.{Change}
use Rattle.sdb_blake2.specs.Blake2b.{H}
use Rattle.trie_model.specs.Fetches.{change_fetches, for_change}
use Rattle.trie_model.specs.Node.{spelling}
use Rattle.trie_model.specs.Nodes.{PathNode, all_nodes, is_stored, nodes_over, stored_nodes}
use Rattle.trie_model.specs.State.{State, apply, no_keys}
use Rattle.trie_model.specs.Trie.{Suffix, below, levels_of, node_of_all, root_node, suffixes_of, trie_root, with_prefix}
use Rattle.trie_model.proofs.States.{get-no_keys}
use Rattle.trie_root.specs.Suffixes.{IsEntry}
use Rattle.trie_root.proofs.ReadOffStates.{in_nibbles}
use Rattle.trie_read.proofs.Hanging.{below-nil}
use Rattle.trie_change.specs.ChangedKeys.{keys_in_changes}
use Rattle.trie_change.specs.Changing.{IsLimitedSetting, settings_of}
use Rattle.trie_change.specs.Frontier.{IsFrontier, IsStub, path_node_at}
use Rattle.trie_change.specs.declared.frontier.Fed.{Fed}
use Rattle.trie_change.specs.Item.{Item}
use Rattle.trie_change.specs.Item as item
use Rattle.trie_change.specs.declared.frontier.Stub.{Stub}
use Rattle.trie_change.specs.declared.settings.Setting.{Setting}
use Rattle.trie_change.specs.inner.InOrder.{set_pairs, stubs_of}
use Rattle.trie_change.specs.inner.Merged.{HasBytes, IsMerged}
use Rattle.trie_change.specs.inner.Stages.{IsCarriedOut, IsHeld, IsSplit, IsUnderWay, all_under, stored_under}
use Rattle.trie_change.proofs.AfterEntries.{entries_after, none_within}
use Rattle.trie_change.proofs.CarriedOver.{frontier_after, stubs_stay}
use Rattle.trie_change.proofs.MergedSteps.{Setted, same_key}
use Rattle.trie_change.proofs.Orders.{key_cmp}
use Rattle.trie_change.proofs.SetBy.{set_keys}
use Rattle.trie_change.proofs.Split.{all_right}
use Rattle.trie_change.proofs.TakenStage.{with_wanted}
use Rattle.trie_change.proofs.Unfolds.{after_nothing}
use Rattle.trie_change.specs.Settings.{settings_from}

pub same_settings : (changes : List Change) → settings_of changes ≡ settings_of changes
same_settings changes = refl

-- ---- the root's stub

root_is : (m : State) → trie_root m ≡ H (spelling (node_of_all (below [] (suffixes_of m))))
unfolding trie_root root_node
root_is m = ap (λ (us : List Suffix). H (spelling (node_of_all us))) (sym (below-nil (suffixes_of m)))

root_stub : (m : State) (s : Stub) → s.path.items ≡ [] → s.hash.0 ≡ trie_root m → IsStub (suffixes_of m) s
root_stub m s path hash = record {
  is_hash = hash ∙ root_is m ∙ ap (λ (p : List ℕ). H (spelling (node_of_all (below p (suffixes_of m))))) (sym path);
  stored = ap (λ (p : List ℕ). is_stored (path_node_at (suffixes_of m) p)) path;
  some = inl path;
}

root_stands : (m : State) (s : Stub) → s.path.items ≡ [] → s.hash.0 ≡ trie_root m → IsFrontier (suffixes_of m) (item.Stub s ∷ [])
root_stands m s path hash = record {
  stubs = (root_stub m s path hash, tt);
  whole = append-nil (with_prefix s.path.items (below s.path.items (suffixes_of m)))
      ∙ ap (λ (p : List ℕ). with_prefix p (below p (suffixes_of m))) path ∙ after_nothing (below [] (suffixes_of m)) ∙ below-nil (suffixes_of m);
}

root_under : (m : State) (s : Stub) → s.path.items ≡ [] → all_under (suffixes_of m) (item.Stub s ∷ []) ≡ stored_nodes m
root_under m s path =
    append-nil (stored_under (suffixes_of m) (item.Stub s))
    ∙ ap (λ (p : List ℕ). filter is_stored (nodes_over (levels_of (below p (suffixes_of m))) p (below p (suffixes_of m)))) path
    ∙ ap (λ (us : List Suffix). filter is_stored (nodes_over (levels_of us) [] us)) (below-nil (suffixes_of m))

begins_held : (m : State) (changes : List Change) (s : Stub) → s.path.items ≡ [] → s.hash.0 ≡ trie_root m → IsHeld m m changes [] (item.Stub s ∷ []) (change_fetches m changes)
begins_held m changes s path hash = record {
  frontier = root_stands m s path hash;
  alone = inl refl;
  left = [];
  left_fed = IsPermutation-refl [];
  split = subst (IsSplit (stored_nodes m) []) (sym (root_under m s path)) (all_right (stored_nodes m));
  apart = tt;
  hashes = tt;
  todo_is = ap (λ (ns : List PathNode). for_change ns (all_nodes (apply m changes)) (keys_in_changes changes)) (sym (root_under m s path));
}

-- ---- changes that set nothing are none

nothing_found : (changes : List Change) (k : List ℕ) → settings_of changes ≡ [] → get (settings_from empty changes) k ≡ None
nothing_found changes k e = get-entries (settings_from empty changes) k ∙ ap (find key_cmp k) (none_mapped (entries (settings_from empty changes)) e)
  where
    none_mapped : (es : List Setted) → map (λ (x : Setted). let y : Setted = (nibbles_of x.0, x.1) in y) es ≡ [] → es ≡ []
    none_mapped [] h = refl
    none_mapped (x ∷ es) h = absurd cc

no_change : (changes : List Change) → settings_of changes ≡ [] → changes ≡ []
no_change [] e = refl
no_change (c ∷ cs) e =
    let found : is_some (get (settings_from empty (c ∷ cs)) c.key) ≡ true =
    set_keys (c ∷ cs) c.key ∙ ap (λ b. b || list_any (λ k. bytes_eq k c.key) (keys_in_changes cs)) ((bytes_eq-Decides c.key c.key).1 refl) in
    let no : false ≡ true = sym (ap is_some (nothing_found (c ∷ cs) c.key e)) ∙ found in absurd cc

-- ---- the first stage

by_settings : (settings all : List Setting) (m : State) (changes : List Change) (s : Stub) → all ≡ settings → All IsEntry (entries m) → set_pairs settings ≡ settings_of changes
    → All IsEntry (entries (apply m changes)) → s.path.items ≡ [] → s.hash.0 ≡ trie_root m
    → IsUnderWay all (with_wanted settings [] None [] (item.Stub s ∷ [])) m changes (change_fetches m changes)
by_settings settings [] m changes s e within set after path hash =
    subst (λ (cs : List Change). IsCarriedOut (with_wanted settings [] None [] (item.Stub s ∷ [])) m cs (change_fetches m cs))
    (sym (no_change changes (sym set ∙ ap set_pairs (sym e))))
    (record { after = within; held = begins_held m [] s path hash; off = (refl, tt); hanging = tt; unhung = tt })
by_settings settings (k ∷ all) m changes s e within set after path hash = record {
  after = after;
  set = set;
  held = begins_held m changes s path hash;
  off = tt;
  on = tt;
}

pub begins : (settings : List Setting) (m : State) (changes : List Change) (s : Stub) → All IsEntry (entries m) → set_pairs settings ≡ settings_of changes
    → AllByRecursion IsLimitedSetting settings → AllByRecursion HasBytes settings → s.path.items ≡ [] → s.hash.0 ≡ trie_root m
    → IsUnderWay settings (with_wanted settings [] None [] (item.Stub s ∷ [])) m changes (change_fetches m changes)
begins settings m changes s within set limits bytes path hash =
    by_settings settings settings m changes s refl within (set ∙ same_settings changes)
    (entries_after m changes settings within (set ∙ same_settings changes) limits bytes) path hash

-- ---- the state without any key

pub no_entries : entries no_keys ≡ []
no_entries =
    same_entries key_cmp nat_list_cmp_total same_key (entries no_keys) [] (entries_sorted no_keys) tt
    (λ q. sym (get-entries no_keys q) ∙ get-no_keys q)

pub nothing_stands : IsFrontier (suffixes_of no_keys) []
nothing_stands = record { stubs = tt; whole = sym (ap (λ (es : List (List ℕ × List ℕ)). map in_nibbles es) no_entries) }

-- in the parts of a job
pub in_parts : (settings : List Setting) (fed : List Fed) (wanted : Option Stub) (found later : List Item) (m : State) (changes : List Change) (todo : List PathNode) (s : Stub)
    → fed ≡ [] → wanted ≡ None → found ≡ [] → later ≡ item.Stub s ∷ []
    → IsUnderWay settings (with_wanted settings [] None [] (item.Stub s ∷ [])) m changes todo → IsUnderWay settings (with_wanted settings fed wanted found later) m changes todo
in_parts settings fed wanted found later m changes todo s e f g h u =
    subst (λ (fs : List Fed). IsUnderWay settings (with_wanted settings fs wanted found later) m changes todo) (sym e)
    (subst (λ (o : Option Stub). IsUnderWay settings (with_wanted settings [] o found later) m changes todo) (sym f)
    (subst (λ (xs : List Item). IsUnderWay settings (with_wanted settings [] None xs later) m changes todo) (sym g)
    (subst (λ (xs : List Item). IsUnderWay settings (with_wanted settings [] None [] xs) m changes todo) (sym h) u)))

-- what is set on nothing
pub made_of_nothing : (changes : List Change) (settings : List Setting) (merged : List Item) → set_pairs settings ≡ settings_of changes → AllByRecursion IsLimitedSetting settings
    → AllByRecursion HasBytes settings → IsMerged (reverse []) (reverse settings) merged
    → All IsEntry (entries (apply no_keys changes)) × IsFrontier (suffixes_of (apply no_keys changes)) (reverse merged) × (stubs_of (reverse merged) ≡ [])
made_of_nothing changes settings merged set limits bytes m = (
  entries_after no_keys changes settings none_within (set ∙ same_settings changes) limits bytes,
  frontier_after no_keys changes settings [] merged (set ∙ same_settings changes) nothing_stands tt m,
  stubs_stay no_keys changes settings [] merged (set ∙ same_settings changes) nothing_stands tt m,
)
