-- Keys that begin with a path lie together, from the first that isn't below it.
use Rattle.std.proofs.Common.{◌≡◌, ◌+◌, ◌-◌, ◌<◌, ◌≤◌, ℕ, zero, suc, Bool, true, false, List, [], ◌∷◌, ◌++◌, length, get_or, drop, take, refl, ap, ap₂, sym, ◌∙◌, arith, append_assoc}
use Rattle.std.specs.Prelude.{◌||◌, nat_eq}
use Rattle.std.specs.List.{AllWithin, starts_with}
use Rattle.std.proofs.lemmas.List.{get_or-drop, get_or-take, length-drop, length-take-le, take-append-drop, take_all, take_more}
use Rattle.std.proofs.lemmas.List.Folds.{list_any-append}
use Rattle.std.specs.FinMap.Entries.{below_all}
use Rattle.trie_root.proofs.Ends.{second_of_and}
use Rattle.trie_change.specs.declared.settings.Setting.{Setting}
use Rattle.trie_change.specs.inner.InOrder.{IsRising, begins_one, set_pairs}
use Rattle.trie_change.proofs.Disjoint.{begins, goes_on_from}
use Rattle.trie_change.proofs.KeysBegun.{first_begins, is_before, none_begins}
use Rattle.trie_change.proofs.NextNibbles.{or_false}
use Rattle.trie_change.proofs.Orders.{key_cmp}

-- ---- a longer path

or_both : (a b : Bool) → (a || b) ≡ false → (a ≡ false) × (b ≡ false)
or_both true b e = cc
or_both false b e = (refl, e)

longer_off : (k end r : List ℕ) → starts_with nat_eq k end ≡ false → starts_with nat_eq k (end ++ r) ≡ false
longer_off k end r off = by_test (starts_with nat_eq k (end ++ r)) refl
  where
    by_test : (b : Bool) → starts_with nat_eq k (end ++ r) ≡ b → b ≡ false
    by_test false h = refl
    by_test true h =
        let further : (q : List ℕ) × (k ≡ (end ++ r) ++ q) = goes_on_from k (end ++ r) h in
        let no : true ≡ false = sym (begins end (r ++ further.0)) ∙ ap (λ (x : List ℕ). starts_with nat_eq x end) (sym (further.1 ∙ append_assoc end r further.0)) ∙ off in
        absurd cc

longer_none : (settings : List Setting) (end r : List ℕ) → begins_one settings end ≡ false → begins_one settings (end ++ r) ≡ false
longer_none [] end r e = refl
longer_none (s ∷ settings) end r e =
    let both : (starts_with nat_eq s.path.items end ≡ false) × (begins_one settings end ≡ false) = or_both (starts_with nat_eq s.path.items end) (begins_one settings end) e in
    ap₂ (λ a b. a || b) (longer_off s.path.items end r both.0) (longer_none settings end r both.1)

-- ---- parts of what is set

begun_parts : (front back : List Setting) (p : List ℕ) → begins_one (front ++ back) p ≡ (begins_one front p || begins_one back p)
begun_parts front back p = list_any-append (λ (s : Setting). starts_with nat_eq s.path.items p) front back

begun_split : (settings : List Setting) (k : ℕ) (p : List ℕ) → begins_one settings p ≡ (begins_one (take k settings) p || begins_one (drop k settings) p)
begun_split settings k p =
    ap (λ (ss : List Setting). begins_one ss p) (sym (take-append-drop k settings)) ∙ begun_parts (take k settings) (drop k settings) p

rising_after : (k : ℕ) (settings : List Setting) → IsRising settings → IsRising (drop k settings)
rising_after zero settings h = h
rising_after (suc k) [] h = h
rising_after (suc k) (s ∷ settings) h = rising_after k settings (second_of_and (below_all key_cmp s.path.items (set_pairs settings)) _ h)

-- those from the first on
abbrev pub from_first : List Setting → ℕ → List Setting
from_first settings r = take (length settings - r) (drop r settings)

all_from : (settings : List Setting) (r : ℕ) → from_first settings r ≡ drop r settings
all_from settings r = take_all (length settings - r) (drop r settings) (omega (arith, length-drop r settings))

-- ---- those before the first

abbrev pub AreBefore : List ℕ → List Setting → ℕ → Type 0
AreBefore end settings r = AllWithin (λ (s : Setting). is_before end s ≡ true) settings 0 r

abbrev pub AreAfter : List ℕ → List Setting → ℕ → Type 0
AreAfter end settings r = AllWithin (λ (s : Setting). is_before end s ≡ false) settings r (length settings)

none_in_front : (settings : List Setting) (r : ℕ) (end : List ℕ) → r ≤ length settings → AreBefore end settings r → begins_one (take r settings) end ≡ false
none_in_front settings r end few a =
    none_begins (take r settings) end
    (λ k d low high.
    let small : k < r = omega (arith, high, length-take-le r settings few) in
    ap (is_before end) (get_or-take r settings k d small) ∙ a k d low small)

from_first_on : (settings : List Setting) (r n : ℕ) (end : List ℕ) → r ≤ length settings → AreBefore end settings r
    → begins_one settings (end ++ n ∷ []) ≡ begins_one (drop r settings) (end ++ n ∷ [])
from_first_on settings r n end few a =
    begun_split settings r (end ++ n ∷ [])
    ∙ ap (λ b. b || begins_one (drop r settings) (end ++ n ∷ [])) (longer_none (take r settings) end (n ∷ []) (none_in_front settings r end few a))

-- ---- the loop over those from the first on

pub one_passed : (settings : List Setting) (r i n : ℕ) (s : Setting) (end path : List ℕ) (old new : Bool) → i < length (from_first settings r)
    → s ≡ get_or (from_first settings r) i s → path ≡ s.path.items → old ≡ begins_one (take i (drop r settings)) (end ++ n ∷ [])
    → new ≡ (old || starts_with nat_eq path (end ++ n ∷ [])) → new ≡ begins_one (take (i + 1) (drop r settings)) (end ++ n ∷ [])
one_passed settings r i n s end path old new few at is before now =
    let p : List ℕ = end ++ n ∷ [] in
    let ys : List Setting = drop r settings in
    let here : s ≡ get_or ys i s = at ∙ ap (λ (zs : List Setting). get_or zs i s) (all_from settings r) in
    now ∙ ap₂ (λ a b. a || b) before (ap (λ (q : List ℕ). starts_with nat_eq q p) (is ∙ ap (λ (t : Setting). t.path.items) here) ∙ sym (or_false (starts_with nat_eq (get_or ys i s).path.items p)))
    ∙ sym (begun_parts (take i ys) (get_or ys i s ∷ []) p)
    ∙ ap (λ (zs : List Setting). begins_one zs p) (sym (take_more ys i s (omega (arith, few, ap length (all_from settings r)))))

pub all_passed : (settings : List Setting) (r i n : ℕ) (end : List ℕ) → r ≤ length settings → AreBefore end settings r → length (from_first settings r) ≤ i
    → begins_one (take i (drop r settings)) (end ++ n ∷ []) ≡ begins_one settings (end ++ n ∷ [])
all_passed settings r i n end few a done =
    ap (λ (zs : List Setting). begins_one zs (end ++ n ∷ [])) (take_all i (drop r settings) (omega (arith, done, ap length (all_from settings r))))
    ∙ sym (from_first_on settings r n end few a)

pub stopped : (settings : List Setting) (r i n : ℕ) (s : Setting) (end path : List ℕ) → IsRising settings → r ≤ length settings → AreBefore end settings r → AreAfter end settings r
    → i < length (from_first settings r) → s ≡ get_or (from_first settings r) i s → path ≡ s.path.items → starts_with nat_eq path end ≡ false
    → begins_one (take i (drop r settings)) (end ++ n ∷ []) ≡ begins_one settings (end ++ n ∷ [])
stopped settings r i n s end path rising few a b more at is off =
    let ys : List Setting = drop r settings in
    let len : length ys ≡ length settings - r = length-drop r settings in
    let left : length (drop i ys) ≡ length ys - i = length-drop i ys in
    let short : i < length ys = omega (arith, more, ap length (all_from settings r)) in
    let here : get_or (drop i ys) 0 s ≡ s =
    get_or-drop i ys 0 s ∙ ap (λ k. get_or ys k s) (omega arith) ∙ ap (λ (zs : List Setting). get_or zs i s) (sym (all_from settings r)) ∙ sym at in
    let none : begins_one (drop i ys) end ≡ false =
    first_begins (drop i ys) end 0 s (rising_after i ys (rising_after r settings rising)) (omega (arith, short, left))
    (λ k d low high. absurd (omega (arith, high)))
    (λ k d low high.
    ap (is_before end) (get_or-drop i ys k d ∙ get_or-drop r settings (i + k) d)
    ∙ b (r + (i + k)) d (omega arith) (omega (arith, high, left, len)))
    ∙ ap (λ (t : Setting). starts_with nat_eq t.path.items end) here ∙ ap (λ (q : List ℕ). starts_with nat_eq q end) (sym is) ∙ off in
    sym (from_first_on settings r n end few a ∙ begun_split ys i (end ++ n ∷ [])
    ∙ ap (λ c. begins_one (take i ys) (end ++ n ∷ []) || c) (longer_none (drop i ys) end (n ∷ []) none)
    ∙ or_false (begins_one (take i ys) (end ++ n ∷ [])))
