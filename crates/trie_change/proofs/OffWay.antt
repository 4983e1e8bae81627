-- No changed key goes on with a path below one that none goes on with.
use Rattle.std.proofs.Common.{◌≡◌, ℕ, Bool, true, false, cond, List, [], ◌∷◌, ◌++◌, refl, ap, ap₂, sym, ◌∙◌}
use Rattle.std.specs.Prelude.{◌&&◌, ◌||◌, filter, nat_eq, not}
use Rattle.std.specs.List.{AllByRecursion, list_any, starts_with}
use Rattle.std.proofs.lemmas.List.Elements.{filter-append}
use Rattle.sdb_base.specs.Nibbles.{nibbles_of}
use Rattle.trie_model.specs.Fetches.{for_change, is_changed, is_unhung}
use Rattle.trie_model.specs.Nodes.{PathNode, has_path, is_stored, nodes_over}
use Rattle.trie_model.specs.Trie.{Suffix, below, levels_of}
use Rattle.trie_root.proofs.ShapesBytes.{all_joined}
use Rattle.trie_read.proofs.Rising.{StartsWith, all_kept, all_weaker, rises_over}
use Rattle.trie_change.specs.Item.{Item}
use Rattle.trie_change.specs.Item as item
use Rattle.trie_change.specs.declared.frontier.Stub.{Stub}
use Rattle.trie_change.specs.inner.Known.{all_known, known_of}
use Rattle.trie_change.specs.inner.Stages.{IsOffKeys, all_under, stored_under}
use Rattle.trie_change.proofs.HangingBetween.{neither_true}
use Rattle.trie_change.proofs.LongerPaths.{begins_through}
use Rattle.trie_change.proofs.Disjoint.{begins}
use Rattle.trie_change.proofs.KnownDeeper.{IsDeeper}

abbrev pub at_path : List ℕ → PathNode
at_path p = record { path = p; bytes = [] }

implied : (b c : Bool) → (b ≡ true → c ≡ true) → c ≡ false → b ≡ false
implied true c f e = let no : true ≡ false = sym (f refl) ∙ e in absurd cc
implied false c f e = refl

pub any_less : {X : Type 0} (f g : X → Bool) → ((x : X) → f x ≡ true → g x ≡ true) → (xs : List X) → list_any g xs ≡ false → list_any f xs ≡ false
any_less f g less [] e = refl
any_less f g less (x ∷ xs) e =
    let parts : (g x ≡ false) × (list_any g xs ≡ false) = neither_true (g x) (list_any g xs) e in
    ap₂ (λ b c. b || c) (implied (f x) (g x) (less x) parts.0) (any_less f g less xs parts.1)

pub off_below : (keys : List (List ℕ)) (p : List ℕ) (n : PathNode) → is_changed keys (at_path p) ≡ false → StartsWith p n → is_changed keys n ≡ false
off_below keys p n off s =
    any_less (λ (k : List ℕ). starts_with nat_eq (nibbles_of k) n.path) (λ (k : List ℕ). starts_with nat_eq (nibbles_of k) p)
    (λ k h. begins_through p n.path (nibbles_of k) (ap (λ (x : List ℕ). starts_with nat_eq x p) s.1 ∙ begins p s.0) h) keys off

pub none_pass : (test : PathNode → Bool) (ns : List PathNode) → AllByRecursion (λ (n : PathNode). test n ≡ false) ns → filter test ns ≡ []
none_pass test [] a = refl
none_pass test (n ∷ ns) a = ap (λ b. cond b (n ∷ filter test ns) (filter test ns)) a.0 ∙ none_pass test ns a.1

-- the nodes under a stub have paths that go on with its own
pub under_start : (ss : List Suffix) (s : Stub) → AllByRecursion (StartsWith s.path.items) (stored_under ss (item.Stub s))
under_start ss s =
    all_kept (StartsWith s.path.items) is_stored (nodes_over (levels_of (below s.path.items ss)) s.path.items (below s.path.items ss))
    (rises_over (levels_of (below s.path.items ss)) s.path.items (below s.path.items ss)).1

one_off : (ss : List Suffix) (keys : List (List ℕ)) (i : Item) → IsOffKeys keys i → AllByRecursion (λ (n : PathNode). is_changed keys n ≡ false) (stored_under ss i)
one_off ss keys (item.Entry e) off = tt
one_off ss keys (item.Stub s) off =
    all_weaker (StartsWith s.path.items) (λ (n : PathNode). is_changed keys n ≡ false) (λ n h. off_below keys s.path.items n off h) (stored_under ss (item.Stub s)) (under_start ss s)

pub all_off : (ss : List Suffix) (keys : List (List ℕ)) (items : List Item) → AllByRecursion (IsOffKeys keys) items
    → AllByRecursion (λ (n : PathNode). is_changed keys n ≡ false) (all_under ss items)
all_off ss keys [] a = tt
all_off ss keys (i ∷ items) a =
    all_joined (λ (n : PathNode). is_changed keys n ≡ false) (stored_under ss i) (all_under ss items) (one_off ss keys i a.0) (all_off ss keys items a.1)

pub off_none : (ss : List Suffix) (keys : List (List ℕ)) (items : List Item) → AllByRecursion (IsOffKeys keys) items → filter (is_changed keys) (all_under ss items) ≡ []
off_none ss keys items a = none_pass (is_changed keys) (all_under ss items) (all_off ss keys items a)

-- what hangs further down than a path off the way is off it
deeper_one : (keys : List (List ℕ)) (p : List ℕ) (i : Item) → is_changed keys (at_path p) ≡ false → IsDeeper p (known_of i) → IsOffKeys keys i
deeper_one keys p (item.Entry e) off d = tt
deeper_one keys p (item.Stub s) off d = off_below keys p (at_path s.path.items) off (d.0, d.1)

pub deeper_off : (keys : List (List ℕ)) (p : List ℕ) (items : List Item) → is_changed keys (at_path p) ≡ false → AllByRecursion (IsDeeper p) (all_known items)
    → AllByRecursion (IsOffKeys keys) items
deeper_off keys p [] off a = tt
deeper_off keys p (i ∷ items) off a = (deeper_one keys p i off a.0, deeper_off keys p items off a.1)

-- ---- which node of a list is fetched first

pub kept_first : (test : PathNode → Bool) (front back : List PathNode) (n : PathNode) → filter test front ≡ [] → test n ≡ true
    → filter test (front ++ n ∷ back) ≡ n ∷ filter test (front ++ back)
kept_first test front back n none e =
    filter-append test front (n ∷ back) ∙ ap (λ (ns : List PathNode). ns ++ filter test (n ∷ back)) none
    ∙ ap (λ b. cond b (n ∷ filter test back) (filter test back)) e
    ∙ ap (λ (ns : List PathNode). n ∷ (ns ++ filter test back)) (sym none) ∙ ap (λ (ns : List PathNode). n ∷ ns) (sym (filter-append test front back))

pub left_out : (test : PathNode → Bool) (front back : List PathNode) (n : PathNode) → test n ≡ false → filter test (front ++ n ∷ back) ≡ filter test (front ++ back)
left_out test front back n e =
    filter-append test front (n ∷ back) ∙ ap (λ b. filter test front ++ cond b (n ∷ filter test back) (filter test back)) e ∙ sym (filter-append test front back)

pub changed_first : (keys : List (List ℕ)) (after front back : List PathNode) (n : PathNode) → filter (is_changed keys) front ≡ [] → is_changed keys n ≡ true
    → for_change (front ++ n ∷ back) after keys ≡ n ∷ for_change (front ++ back) after keys
changed_first keys after front back n none e =
    ap₂ (λ (xs ys : List PathNode). xs ++ ys) (kept_first (is_changed keys) front back n none e)
    (left_out (is_unhung after keys) front back n (ap (λ b. not b && not (has_path after n.path)) e))

pub unhung_first : (keys : List (List ℕ)) (after front back : List PathNode) (n : PathNode) → filter (is_changed keys) (front ++ back) ≡ [] → filter (is_unhung after keys) front ≡ []
    → is_changed keys n ≡ false → has_path after n.path ≡ false → for_change (front ++ n ∷ back) after keys ≡ n ∷ for_change (front ++ back) after keys
unhung_first keys after front back n off none e f =
    ap₂ (λ (xs ys : List PathNode). xs ++ ys) (left_out (is_changed keys) front back n e ∙ off)
    (kept_first (is_unhung after keys) front back n none (ap₂ (λ b c. not b && not c) e f))
    ∙ ap (λ (xs : List PathNode). n ∷ (xs ++ filter (is_unhung after keys) (front ++ back))) (sym off)
