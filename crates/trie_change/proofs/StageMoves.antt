-- From one stage of a job to the next, as items are moved.
use Rattle.std.proofs.Common.{◌≡◌, ℕ, true, false, List, [], ◌∷◌, ◌++◌, reverse, Option, None, refl, ap, ap₂, subst, sym, ◌∙◌, inr}
use Rattle.std.specs.Prelude.{◌||◌, IfSome, filter, is_some, nat_eq}
use Rattle.std.specs.List.{AllByRecursion, flat_map, list_any, starts_with}
use Rattle.std.proofs.lemmas.List.{append-nil}
use Rattle.sdb_base.specs.declared.Change.{Change}
use Rattle.trie_model.specs.Fetches.{for_change}
use Rattle.trie_model.specs.Nodes.{PathNode, all_nodes, is_stored, nodes_over, stored_nodes}
use Rattle.trie_model.specs.State.{State, apply}
use Rattle.trie_model.specs.Trie.{Suffix, levels_of, suffixes_of}
use Rattle.trie_read.specs.Paths.{Hangs}
use Rattle.trie_read.proofs.Rising.{all_weaker}
use Rattle.trie_change.specs.ChangedKeys.{keys_in_changes}
use Rattle.trie_change.specs.Frontier.{IsHanging, is_under}
use Rattle.trie_change.specs.declared.frontier.Fed.{Fed}
use Rattle.trie_change.specs.Item.{Item}
use Rattle.trie_change.specs.Item as item
use Rattle.trie_change.specs.declared.frontier.Stub.{Stub}
use Rattle.trie_change.specs.declared.settings.Setting.{Setting}
use Rattle.trie_change.specs.inner.InOrder.{IsBelowRoot, IsOff, begins_one, in_place, stubs_of}
use Rattle.trie_change.specs.inner.Merged.{IsMerged}
use Rattle.trie_change.specs.inner.Settled.{fed_nodes}
use Rattle.trie_change.specs.inner.Stages.{IsCarriedOut, IsHeld, IsOffKeys, IsOnTheWay, IsSplit, IsUnderWay, IsWaiting, JobParts, all_under, stored_under}
use Rattle.trie_change.proofs.CarriedOver.{IsOffStub, OfStub, frontier_after, off_after, same_stubs_hold, stubs_hold, stubs_stay}
use Rattle.trie_change.proofs.OffWay.{at_path}
use Rattle.trie_change.proofs.Unchanged.{below_stays}

-- ---- which run it is

pub is_on_the_way : (settings : List Setting) (j : JobParts) (m : State) (changes : List Change) (todo : List PathNode) → (settings ≡ [] → ⊥)
    → IsUnderWay settings j m changes todo → IsOnTheWay j m changes todo
is_on_the_way [] j m changes todo some u = absurd (some refl)
is_on_the_way (s ∷ settings) j m changes todo some u = u

pub is_carried_out : (settings : List Setting) (j : JobParts) (m : State) (changes : List Change) (todo : List PathNode) → settings ≡ []
    → IsUnderWay settings j m changes todo → IsCarriedOut j m changes todo
is_carried_out [] j m changes todo none u = u
is_carried_out (s ∷ settings) j m changes todo none u = absurd cc

pub under_way_there : (settings : List Setting) (j : JobParts) (m : State) (changes : List Change) (todo : List PathNode) → (settings ≡ [] → ⊥)
    → IsOnTheWay j m changes todo → IsUnderWay settings j m changes todo
under_way_there [] j m changes todo some u = absurd (some refl)
under_way_there (s ∷ settings) j m changes todo some u = u

pub under_way_after : (settings : List Setting) (j : JobParts) (m : State) (changes : List Change) (todo : List PathNode) → settings ≡ []
    → IsCarriedOut j m changes todo → IsUnderWay settings j m changes todo
under_way_after [] j m changes todo none u = u
under_way_after (s ∷ settings) j m changes todo none u = absurd cc

pub waits_there : (settings : List Setting) (j : JobParts) → (settings ≡ [] → ⊥) → is_some j.wanted ≡ true → IsWaiting settings j
waits_there [] j some e = absurd (some refl)
waits_there (s ∷ settings) j some e = e

pub waits_after : (settings : List Setting) (j : JobParts) → settings ≡ [] → (j.wanted ≡ None → j.later ≡ []) → IsWaiting settings j
waits_after [] j none f = f
waits_after (s ∷ settings) j none f = absurd cc

-- ---- items that are moved

pub moved_there : (settings : List Setting) (fed : List Fed) (found later found2 later2 : List Item) (next : Option Stub) (m : State) (changes : List Change) (todo : List PathNode)
    → IsOnTheWay (record { settings = settings; fed = fed; wanted = None; found = found; later = later }) m changes todo
    → in_place found2 next later2 ≡ in_place found None later → (AllByRecursion (IsOff settings) found → AllByRecursion (IsOff settings) found2)
    → IfSome next (λ s. begins_one settings s.path.items ≡ true)
    → IsOnTheWay (record { settings = settings; fed = fed; wanted = next; found = found2; later = later2 }) m changes todo
moved_there settings fed found later found2 later2 next m changes todo w same off on = record {
  after = w.after;
  set = w.set;
  held = subst (λ (xs : List Item). IsHeld m m changes fed xs todo) (sym same) w.held;
  off = off w.off;
  on = on;
}

pub moved_after : (settings : List Setting) (fed : List Fed) (found later found2 later2 : List Item) (next : Option Stub) (m : State) (changes : List Change) (todo : List PathNode)
    → IsCarriedOut (record { settings = settings; fed = fed; wanted = None; found = found; later = later }) m changes todo
    → in_place found2 next later2 ≡ in_place found None later
    → AllByRecursion (IsHanging (suffixes_of (apply m changes))) found2 × IfSome next (λ s. Hangs (suffixes_of (apply m changes)) s.path.items → ⊥)
    → IsCarriedOut (record { settings = settings; fed = fed; wanted = next; found = found2; later = later2 }) m changes todo
moved_after settings fed found later found2 later2 next m changes todo w same h = record {
  after = w.after;
  held = subst (λ (xs : List Item). IsHeld (apply m changes) m changes fed xs todo) (sym same) w.held;
  off = subst (AllByRecursion (IsOffKeys (keys_in_changes changes))) (sym same) w.off;
  hanging = h.0;
  unhung = h.1;
}

-- ---- what is set is carried out

off_stub : (keys : List (List ℕ)) (i : Item) → OfStub (IsOffStub keys) i → IsOffKeys keys i
off_stub keys (item.Entry e) o = tt
off_stub keys (item.Stub s) o = o

-- the root's stub is on the way to each key
below_root : (settings : List Setting) (i : Item) → (settings ≡ [] → ⊥) → IsOff settings i → IsBelowRoot i
below_root settings (item.Entry e) some off = tt
below_root [] (item.Stub s) some off = absurd (some refl)
below_root (k ∷ settings) (item.Stub s) some off = λ root.
    let no : true ≡ false = ap (λ (p : List ℕ). starts_with nat_eq k.path.items p || begins_one settings p) (sym root) ∙ off in cc

under_stubs : (m : State) (changes : List Change) (items others : List Item) → stubs_of others ≡ stubs_of items
    → AllByRecursion (OfStub (IsOffStub (keys_in_changes changes))) others → all_under (suffixes_of (apply m changes)) others ≡ all_under (suffixes_of m) items
under_stubs m changes items others e off =
    by_stubs (suffixes_of (apply m changes)) others
    ∙ alike (stubs_of others) (stubs_hold (IsOffStub (keys_in_changes changes)) others off)
    ∙ ap (flat_map (λ (s : Stub). stored_under (suffixes_of m) (item.Stub s))) e ∙ sym (by_stubs (suffixes_of m) items)
  where
    by_stubs : (ss : List Suffix) (xs : List Item) → all_under ss xs ≡ flat_map (λ (s : Stub). stored_under ss (item.Stub s)) (stubs_of xs)
    by_stubs ss [] = refl
    by_stubs ss (item.Entry k ∷ xs) = by_stubs ss xs
    by_stubs ss (item.Stub s ∷ xs) = ap (λ (ns : List PathNode). stored_under ss (item.Stub s) ++ ns) (by_stubs ss xs)

    one : (s : Stub) → IsOffStub (keys_in_changes changes) s → stored_under (suffixes_of (apply m changes)) (item.Stub s) ≡ stored_under (suffixes_of m) (item.Stub s)
    one s o = ap (λ (us : List Suffix). filter is_stored (nodes_over (levels_of us) s.path.items us)) (below_stays m changes (at_path s.path.items) o)

    alike : (stubs : List Stub) → AllByRecursion (IsOffStub (keys_in_changes changes)) stubs
        → flat_map (λ (s : Stub). stored_under (suffixes_of (apply m changes)) (item.Stub s)) stubs ≡ flat_map (λ (s : Stub). stored_under (suffixes_of m) (item.Stub s)) stubs
    alike [] a = refl
    alike (s ∷ stubs) a = ap₂ (λ (xs ys : List PathNode). xs ++ ys) (one s a.0) (alike stubs a.1)

under_alike : (items others : List Item) (n : PathNode) → stubs_of others ≡ stubs_of items → is_under others n ≡ is_under items n
under_alike items others n e = by_stubs others ∙ ap (list_any (λ (s : Stub). starts_with nat_eq n.path s.path.items)) e ∙ sym (by_stubs items)
  where
    by_stubs : (xs : List Item) → is_under xs n ≡ list_any (λ (s : Stub). starts_with nat_eq n.path s.path.items) (stubs_of xs)
    by_stubs [] = refl
    by_stubs (item.Entry k ∷ xs) = by_stubs xs
    by_stubs (item.Stub s ∷ xs) = ap (λ b. starts_with nat_eq n.path s.path.items || b) (by_stubs xs)

pub carried : (settings : List Setting) (fed : List Fed) (found later : List Item) (m : State) (changes : List Change) (todo : List PathNode) → (settings ≡ [] → ⊥)
    → IsOnTheWay (record { settings = settings; fed = fed; wanted = None; found = found; later = [] }) m changes todo → IsMerged (reverse found) (reverse settings) later
    → IsCarriedOut (record { settings = []; fed = fed; wanted = None; found = []; later = later }) m changes todo
carried settings fed found later m changes todo some w merged =
    let held : IsHeld m m changes fed found todo = subst (λ (xs : List Item). IsHeld m m changes fed xs todo) (append-nil found) w.held in
    let stubs : stubs_of (reverse later) ≡ stubs_of found = stubs_stay m changes settings found later w.set held.frontier w.off merged in
    let off : AllByRecursion (OfStub (IsOffStub (keys_in_changes changes))) (reverse later) = off_after m changes settings found later w.set held.frontier w.off merged in
    let under : all_under (suffixes_of (apply m changes)) (reverse later) ≡ all_under (suffixes_of m) found = under_stubs m changes found (reverse later) stubs off in
    record {
      after = w.after;
      held = record {
        frontier = frontier_after m changes settings found later w.set held.frontier w.off merged;
        alone = inr (below_roots found (reverse later) stubs w.off);
        left = held.left;
        left_fed = held.left_fed;
        split = subst (IsSplit (stored_nodes m) held.left) (sym under) held.split;
        apart = all_weaker (λ (n : PathNode). is_under found n ≡ false) (λ (n : PathNode). is_under (reverse later) n ≡ false)
            (λ n e. under_alike found (reverse later) n stubs ∙ e) (fed_nodes fed) held.apart;
        hashes = held.hashes;
        todo_is = held.todo_is ∙ ap (λ (ns : List PathNode). for_change ns (all_nodes (apply m changes)) (keys_in_changes changes)) (sym under);
      };
      off = all_weaker (OfStub (IsOffStub (keys_in_changes changes))) (IsOffKeys (keys_in_changes changes)) (off_stub (keys_in_changes changes)) (reverse later) off;
      hanging = tt;
      unhung = tt;
    }
  where
    to_stub : (i : Item) → IsOff settings i → OfStub (λ (s : Stub). s.path.items ≡ [] → ⊥) i
    to_stub (item.Entry e) o = tt
    to_stub (item.Stub s) o = below_root settings (item.Stub s) some o

    from_stub : (i : Item) → OfStub (λ (s : Stub). s.path.items ≡ [] → ⊥) i → IsBelowRoot i
    from_stub (item.Entry e) o = tt
    from_stub (item.Stub s) o = o

    below_roots : (items others : List Item) → stubs_of others ≡ stubs_of items → AllByRecursion (IsOff settings) items → AllByRecursion IsBelowRoot others
    below_roots items others e a =
        all_weaker (OfStub (λ (s : Stub). s.path.items ≡ [] → ⊥)) IsBelowRoot from_stub others
        (same_stubs_hold (λ (s : Stub). s.path.items ≡ [] → ⊥) items others e
        (all_weaker (IsOff settings) (OfStub (λ (s : Stub). s.path.items ≡ [] → ⊥)) to_stub items a))
