-- Where nothing is wanted any more, the items that are known and the nodes that were fed suffice.
use Rattle.std.proofs.Common.{◌≡◌, ◌⊎◌, ℕ, Bool, true, false, List, [], ◌∷◌, ◌++◌, refl, ap, subst, sym, ◌∙◌, inl, inr}
use Rattle.std.specs.Prelude.{◌↔◌, ◌||◌, All, Contains, IsPermutation, filter, not}
use Rattle.std.specs.FinMap.{entries}
use Rattle.std.specs.List.{AllByRecursion}
use Rattle.std.proofs.lemmas.List.{append-nil}
use Rattle.std.proofs.lemmas.List.Elements.{All-from_recursion, recursion_from_All}
use Rattle.std.proofs.lemmas.List.Sorted.{All-permutation, IsPermutation-refl, IsPermutation-sym}
use Rattle.sdb_base.specs.declared.Change.{Change}
use Rattle.trie_model.specs.Fetches.{is_changed}
use Rattle.trie_model.specs.Nodes.{PathNode, all_nodes, is_stored, nodes_without, stored_nodes}
use Rattle.trie_model.specs.State.{State, apply}
use Rattle.trie_model.specs.Trie.{Suffix, below, suffixes_of}
use Rattle.trie_root.specs.Suffixes.{IsEntry}
use Rattle.trie_read.specs.Paths.{AreNibbles, Hangs}
use Rattle.trie_read.proofs.Among.{Among, among_either, among_from, among_kept, among_left, among_right, contains_from, kept_among}
use Rattle.trie_read.proofs.Binding.{sound_state}
use Rattle.trie_read.proofs.Rising.{StartsWith, all_weaker, stored_rise}
use Rattle.trie_read.proofs.Sound.{are_nibbles}
use Rattle.trie_read.proofs.Stored.{is_hung}
use Rattle.trie_change.specs.ChangedKeys.{keys_in_changes}
use Rattle.trie_change.specs.Frontier.{IsFrontier, IsHanging, IsItem, is_at_stub, is_under, path_node_at}
use Rattle.trie_change.specs.declared.frontier.Fed.{Fed}
use Rattle.trie_change.specs.Item.{Item}
use Rattle.trie_change.specs.Item as item
use Rattle.trie_change.specs.declared.frontier.Stub.{Stub}
use Rattle.trie_change.specs.inner.InOrder.{stubs_of}
use Rattle.trie_change.specs.inner.Settled.{AreEnough, fed_nodes}
use Rattle.trie_change.specs.inner.Stages.{IsHeld, IsOffKeys, all_under, stored_under}
use Rattle.trie_change.proofs.Carried.{carried_stored}
use Rattle.trie_change.proofs.Deeper.{deeper_after, deeper_before}
use Rattle.trie_change.proofs.Disjoint.{goes_on_from}
use Rattle.trie_change.proofs.HungUnder.{each_of, path_is_there}
use Rattle.trie_change.proofs.LongerPaths.{begins_longer}
use Rattle.trie_change.proofs.OffWay.{at_path, under_start}
use Rattle.trie_change.proofs.Opened.{IsOpen, opened}
use Rattle.trie_change.proofs.SetBy.{any_found}
use Rattle.trie_change.proofs.Split.{left_kept, right_there}
use Rattle.trie_change.proofs.Unchanged.{below_stays}

-- ---- the nodes under items

holds_of : {X : Type 0} (P : X → Type 0) (xs : List X) (x : X) → AllByRecursion P xs → Among x xs → P x
holds_of P [] x a i = absurd i
holds_of P (y ∷ ys) x a (inl e) = subst P e a.0
holds_of P (y ∷ ys) x a (inr i) = holds_of P ys x a.1 i

or_true : (b : Bool) → (b || true) ≡ true
or_true true = refl
or_true false = refl

at_its_stub : (ss : List Suffix) (i : Item) (n : PathNode) → Among n (stored_under ss i) → is_at_stub n.path i ≡ true
at_its_stub ss (item.Entry e) n a = absurd a
at_its_stub ss (item.Stub s) n a =
    let start : StartsWith s.path.items n = holds_of (StartsWith s.path.items) (stored_under ss (item.Stub s)) n (under_start ss s) a in
    begins_longer s.path.items start.0 n.path start.1

under_them : (ss : List Suffix) (items : List Item) (n : PathNode) → Among n (all_under ss items) → is_under items n ≡ true
under_them ss [] n a = absurd a
under_them ss (i ∷ items) n a = elim (among_either n (stored_under ss i) (all_under ss items) a) [
  | inl here ↦ ap (λ b. b || is_under items n) (at_its_stub ss i n here)
  | inr further ↦ ap (λ b. is_at_stub n.path i || b) (under_them ss items n further) ∙ or_true (is_at_stub n.path i)
]

among_under : (ss : List Suffix) (items : List Item) (i : Item) (n : PathNode) → Among i items → Among n (stored_under ss i) → Among n (all_under ss items)
among_under ss [] i n a b = absurd a
among_under ss (j ∷ items) i n (inl e) b = among_left n (stored_under ss j) (all_under ss items) (subst (λ (x : Item). Among n (stored_under ss x)) (sym e) b)
among_under ss (j ∷ items) i n (inr a) b = among_right n (stored_under ss j) (all_under ss items) (among_under ss items i n a b)

-- ---- the nodes under a stub that hangs in both tries

nothing_or_some : (r : List ℕ) → (r ≡ []) ⊎ (r ≡ [] → ⊥)
nothing_or_some [] = inl refl
nothing_or_some (x ∷ r) = inr (λ e. cc)

module _ (m : State) (changes : List Change) (within : All IsEntry (entries m)) (after : All IsEntry (entries (apply m changes))) (s : Stub)
    (off : is_changed (keys_in_changes changes) (at_path s.path.items) ≡ false) (n : PathNode) (r : List ℕ) (at : n.path ≡ s.path.items ++ r) where
  same_below : r ≡ [] → below n.path (suffixes_of (apply m changes)) ≡ below n.path (suffixes_of m)
  same_below e =
      let is : n.path ≡ s.path.items = at ∙ ap (λ (x : List ℕ). s.path.items ++ x) e ∙ append-nil s.path.items in
      ap (λ (p : List ℕ). below p (suffixes_of (apply m changes))) is ∙ below_stays m changes (at_path s.path.items) off ∙ ap (λ (p : List ℕ). below p (suffixes_of m)) (sym is)

  hangs_so : (ss : List Suffix) → r ≡ [] → Hangs ss s.path.items → Hangs ss n.path
  hangs_so ss e h = subst (Hangs ss) (sym (at ∙ ap (λ (x : List ℕ). s.path.items ++ x) e ∙ append-nil s.path.items)) h

  pub stored_after : Hangs (suffixes_of (apply m changes)) s.path.items → Contains (stored_nodes m) n → Contains (stored_nodes (apply m changes)) n
  stored_after h c =
      let a : Among n (stored_nodes m) = among_from n (stored_nodes m) c in
      let parts : Among n (all_nodes m) × (is_stored n ≡ true) = among_kept n is_stored (all_nodes m) a in
      let nibbles : AreNibbles (suffixes_of (apply m changes)) = are_nibbles (suffixes_of (apply m changes)) (sound_state (apply m changes) after) in
      elim (nothing_or_some r) [
        | inl none ↦
            contains_from n (stored_nodes (apply m changes))
            (carried_stored m (apply m changes) n a (same_below none) (path_is_there (suffixes_of (apply m changes)) n.path nibbles (hangs_so (suffixes_of (apply m changes)) none h)))
        | inr some ↦
            contains_from n (stored_nodes (apply m changes)) (kept_among n is_stored (all_nodes (apply m changes))
            (among_from n (all_nodes (apply m changes)) (deeper_after m changes (at_path s.path.items) n r nibbles off at some (contains_from n (all_nodes m) parts.0))) parts.1)
      ]

  pub stored_before : Hangs (suffixes_of m) s.path.items → Contains (stored_nodes (apply m changes)) n → Contains (stored_nodes m) n
  stored_before h c =
      let a : Among n (stored_nodes (apply m changes)) = among_from n (stored_nodes (apply m changes)) c in
      let parts : Among n (all_nodes (apply m changes)) × (is_stored n ≡ true) = among_kept n is_stored (all_nodes (apply m changes)) a in
      let nibbles : AreNibbles (suffixes_of m) = are_nibbles (suffixes_of m) (sound_state m within) in
      elim (nothing_or_some r) [
        | inl none ↦
            contains_from n (stored_nodes m)
            (carried_stored (apply m changes) m n a (sym (same_below none)) (path_is_there (suffixes_of m) n.path nibbles (hangs_so (suffixes_of m) none h)))
        | inr some ↦
            contains_from n (stored_nodes m) (kept_among n is_stored (all_nodes m)
            (among_from n (all_nodes m) (deeper_before m changes (at_path s.path.items) n r nibbles off at some (contains_from n (all_nodes (apply m changes)) parts.0))) parts.1)
      ]

module _ (m : State) (changes : List Change) (within : All IsEntry (entries m)) (after : All IsEntry (entries (apply m changes))) (fed : List Fed) (items : List Item) (todo : List PathNode)
    (held : IsHeld (apply m changes) m changes fed items todo) (off : AllByRecursion (IsOffKeys (keys_in_changes changes)) items)
    (hanging : AllByRecursion (IsHanging (suffixes_of (apply m changes))) items) where
  -- a stub hangs in the trie before the changes as well
  hung_before : (s : Stub) → Among (item.Stub s) items → Hangs (suffixes_of m) s.path.items
  hung_before s a =
      let o : IsOpen (suffixes_of (apply m changes)) s = opened (suffixes_of (apply m changes)) s (holds_of (IsItem (suffixes_of (apply m changes))) items (item.Stub s) held.frontier.stubs a) in
      let n : PathNode = path_node_at (suffixes_of (apply m changes)) s.path.items in
      let here : Among n (stored_under (suffixes_of (apply m changes)) (item.Stub s)) = subst (Among n) (sym o.under) (inl refl) in
      let old : Among n (stored_nodes m) =
      right_there n (stored_nodes m) held.left (all_under (suffixes_of (apply m changes)) items) held.split (among_under (suffixes_of (apply m changes)) items (item.Stub s) n a here) in
      (is_hung (suffixes_of m) n (among_kept n is_stored (all_nodes m) old).0).path

  by_item : (n : PathNode) (i : Item) → Among i items → is_at_stub n.path i ≡ true → Contains (stored_nodes m) n ↔ Contains (stored_nodes (apply m changes)) n
  by_item n (item.Entry e) a h = absurd cc
  by_item n (item.Stub s) a h =
      let further : (r : List ℕ) × (n.path ≡ s.path.items ++ r) = goes_on_from n.path s.path.items h in
      let clear : is_changed (keys_in_changes changes) (at_path s.path.items) ≡ false = holds_of (IsOffKeys (keys_in_changes changes)) items (item.Stub s) off a in (
        stored_after m changes within after s clear n further.0 further.1 (holds_of (IsHanging (suffixes_of (apply m changes))) items (item.Stub s) hanging a),
        stored_before m changes within after s clear n further.0 further.1 (hung_before s a),
      )

  pub settled_items : AreEnough (stored_nodes m) (apply m changes) fed items
  settled_items =
      let passes : AllByRecursion (λ (n : PathNode). not (is_under items n) ≡ true) held.left =
      recursion_from_All (λ (n : PathNode). not (is_under items n) ≡ true) held.left
      (All-permutation (λ (n : PathNode). not (is_under items n) ≡ true) (fed_nodes fed) held.left (IsPermutation-sym held.left (fed_nodes fed) held.left_fed)
      (All-from_recursion (λ (n : PathNode). not (is_under items n) ≡ true) (fed_nodes fed)
      (all_weaker (λ (n : PathNode). is_under items n ≡ false) (λ (n : PathNode). not (is_under items n) ≡ true) (λ n e. ap not e) (fed_nodes fed) held.apart))) in
      let fails : AllByRecursion (λ (n : PathNode). not (is_under items n) ≡ false) (all_under (suffixes_of (apply m changes)) items) =
      each_of (λ n. not (is_under items n)) (all_under (suffixes_of (apply m changes)) items) (λ n a. ap not (under_them (suffixes_of (apply m changes)) items n a)) in
      let kept : filter (λ n. not (is_under items n)) (stored_nodes m) ≡ held.left =
      left_kept (λ n. not (is_under items n)) (stored_nodes m) held.left (all_under (suffixes_of (apply m changes)) items) held.split passes fails in
      record {
        within = after;
        rises = stored_rise (suffixes_of m);
        frontier = held.frontier;
        hanging = hanging;
        hashes = held.hashes;
        fed_once = subst (λ (ns : List PathNode). IsPermutation ns (fed_nodes fed)) (sym kept) held.left_fed;
        same = λ n e. let i : (i : Item) × Among i items × (is_at_stub n.path i ≡ true) = any_found (is_at_stub n.path) items e in by_item n i.0 i.1 i.2;
      }

-- ---- of the state without any key

pub no_stubs_under : (items : List Item) (n : PathNode) → stubs_of items ≡ [] → is_under items n ≡ false
no_stubs_under [] n e = refl
no_stubs_under (item.Entry k ∷ items) n e = no_stubs_under items n e
no_stubs_under (item.Stub s ∷ items) n e = absurd cc

no_stubs_hang : (ss : List Suffix) (items : List Item) → stubs_of items ≡ [] → AllByRecursion (IsHanging ss) items
no_stubs_hang ss [] e = tt
no_stubs_hang ss (item.Entry k ∷ items) e = (tt, no_stubs_hang ss items e)
no_stubs_hang ss (item.Stub s ∷ items) e = absurd cc

pub created_items : (m : State) (fed : List Fed) (items : List Item) → All IsEntry (entries m) → IsFrontier (suffixes_of m) items → stubs_of items ≡ [] → fed ≡ []
    → AreEnough [] m fed items
created_items m fed items within front none nothing = record {
  within = within;
  rises = refl;
  frontier = front;
  hanging = no_stubs_hang (suffixes_of m) items none;
  hashes = subst (AllByRecursion _) (sym nothing) tt;
  fed_once = subst (λ (fs : List Fed). IsPermutation [] (fed_nodes fs)) (sym nothing) (IsPermutation-refl []);
  same = λ n e. let no : true ≡ false = sym e ∙ no_stubs_under items n none in absurd cc;
}

pub all_without : (nodes : List PathNode) → nodes_without nodes [] ≡ nodes
all_without [] = refl
all_without (n ∷ nodes) = ap (λ (ns : List PathNode). n ∷ ns) (all_without nodes)
