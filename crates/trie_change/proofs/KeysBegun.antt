-- Keys in order that begin with a path lie together, after those below it.
use Rattle.std.proofs.Common.{◌≡◌, ℕ, zero, suc, ◌+◌, ◌<◌, Bool, true, false, List, [], ◌∷◌, ◌++◌, length, get_or, T, refl, ap, ap₂, subst, sym, ◌∙◌, inl, inr, arith}
use Rattle.std.specs.Prelude.{◌||◌, nat_eq}
use Rattle.std.specs.List.{AllWithin, starts_with}
use Rattle.std.specs.List.Sorted.{IsPartitionedBy}
use Rattle.std.specs.Ordering.{is_lt, ordering_then}
use Rattle.std.proofs.lemmas.Bool.{cases_lt}
use Rattle.std.proofs.lemmas.Cmp.{nat_cmp_total, tied_itself}
use Rattle.std.proofs.lemmas.List.{append-nil, get_or_default}
use Rattle.std.specs.declared.cmp.Ordering.{Ordering}
use Rattle.std.specs.declared.cmp.Ordering.TheVariants.{Less, Equal, Greater}
use Rattle.std.specs.FinMap.{is_sorted}
use Rattle.std.specs.FinMap.Entries.{below_all}
use Rattle.trie_root.proofs.Ends.{at_most_from_lt, first_of_and, second_of_and}
use Rattle.trie_read.proofs.Among.{Among}
use Rattle.trie_change.specs.declared.settings.Setting.{Setting}
use Rattle.trie_change.specs.inner.InOrder.{IsRising, begins_one, set_pair, set_pairs}
use Rattle.trie_change.proofs.Disjoint.{begins, goes_on_from}
use Rattle.trie_change.proofs.MergedSteps.{same_key}
use Rattle.trie_change.proofs.Orders.{above_one, flipped, from_less, key_cmp, less_from, through}
use Rattle.trie_change.proofs.SortedParts.{between}

-- whether a key is below a path
abbrev pub is_before : List ℕ → Setting → Bool
is_before path s = is_lt (key_cmp s.path.items path)

less_of : (s : Setting) (path : List ℕ) → is_before path s ≡ true → key_cmp s.path.items path ≡ Less
less_of s path e = less_from s.path.items path (subst T (sym e) tt)

of_less : (a b : List ℕ) → key_cmp a b ≡ Less → is_lt (key_cmp a b) ≡ true
of_less a b e = ap is_lt e

rest_rises : (s : Setting) (settings : List Setting) → IsRising (s ∷ settings) → IsRising settings
rest_rises s settings h = second_of_and (below_all key_cmp s.path.items (set_pairs settings)) _ h

pair_among : (settings : List Setting) (k : Setting) → Among k settings → Among (set_pair k) (set_pairs settings)
pair_among [] k a = absurd a
pair_among (s ∷ settings) k (inl e) = inl (ap set_pair e)
pair_among (s ∷ settings) k (inr a) = inr (pair_among settings k a)

first_below : (s : Setting) (settings : List Setting) → IsRising (s ∷ settings) → (k : Setting) → Among k settings → key_cmp s.path.items k.path.items ≡ Less
first_below s settings h k a =
    above_one s.path.items (set_pairs settings) (set_pair k) (first_of_and _ (is_sorted key_cmp (set_pairs settings)) h) (pair_among settings k a)

there : (settings : List Setting) (j : ℕ) (d : Setting) → j < length settings → Among (get_or settings j d) settings
there [] j d h = absurd (omega arith)
there (s ∷ settings) zero d h = inl refl
there (s ∷ settings) (suc j) d h = inr (there settings j d (omega arith))

pub parted : (settings : List Setting) (path : List ℕ) → IsRising settings → IsPartitionedBy (is_before path) settings
parted [] path h i j d low high e = absurd (omega arith)
parted (s ∷ settings) path h zero zero d low high e = e
parted (s ∷ settings) path h zero (suc j) d low high e =
    of_less s.path.items path
    (through s.path.items (get_or settings j d).path.items path (first_below s settings h (get_or settings j d) (there settings j d (omega arith))) (less_of (get_or settings j d) path e))
parted (s ∷ settings) path h (suc i) zero d low high e = absurd (omega arith)
parted (s ∷ settings) path h (suc i) (suc j) d low high e = parted settings path (rest_rises s settings h) i j d (omega arith) (omega arith) e

-- ---- a key below a path doesn't begin with it

not_below_longer : (path r : List ℕ) → key_cmp (path ++ r) path ≡ Less → ⊥
not_below_longer [] [] e = cc
not_below_longer [] (x ∷ r) e = cc
not_below_longer (x ∷ path) r e =
    not_below_longer path r (sym (ap (λ o. ordering_then o (key_cmp (path ++ r) path)) (tied_itself nat_cmp_total x)) ∙ e)

off_below : (s : Setting) (path : List ℕ) → is_before path s ≡ true → starts_with nat_eq s.path.items path ≡ false
off_below s path e = by_test (starts_with nat_eq s.path.items path) refl
  where
    by_test : (b : Bool) → starts_with nat_eq s.path.items path ≡ b → b ≡ false
    by_test false h = refl
    by_test true h =
        let further : (r : List ℕ) × (s.path.items ≡ path ++ r) = goes_on_from s.path.items path h in
        absurd (not_below_longer path further.0 (ap (λ (k : List ℕ). key_cmp k path) (sym further.1) ∙ less_of s path e))

pub none_begins : (settings : List Setting) (path : List ℕ) → AllWithin (λ (s : Setting). is_before path s ≡ true) settings 0 (length settings) → begins_one settings path ≡ false
none_begins [] path a = refl
none_begins (s ∷ settings) path a =
    ap₂ (λ b c. b || c) (off_below s path (a 0 s (omega arith) (omega arith)))
    (none_begins settings path (λ k d low high. a (suc k) d (omega arith) (omega arith)))

-- ---- the first key that isn't below it tells

none_after : (s : Setting) (settings : List Setting) (path : List ℕ) → (o : Ordering) → key_cmp s.path.items path ≡ o → is_lt o ≡ false → starts_with nat_eq s.path.items path ≡ false
    → (k : Setting) → key_cmp s.path.items k.path.items ≡ Less → starts_with nat_eq k.path.items path ≡ false
none_after s settings path Less is e off k l = absurd cc
none_after s settings path Equal is e off k l =
    let yes_ : true ≡ false = sym (begins path []) ∙ ap (λ (x : List ℕ). starts_with nat_eq x path) (append-nil path ∙ sym (same_key s.path.items path is)) ∙ off in absurd cc
none_after s settings path Greater is e off k l = by_test (starts_with nat_eq k.path.items path) refl
  where
    by_test : (b : Bool) → starts_with nat_eq k.path.items path ≡ b → b ≡ false
    by_test false h = refl
    by_test true h =
        let here : starts_with nat_eq s.path.items path ≡ true =
        between path path s.path.items k.path.items (at_most_from_lt path s.path.items (from_less path s.path.items (flipped s.path.items path is)))
        (at_most_from_lt s.path.items k.path.items (from_less s.path.items k.path.items l))
        (ap (λ (x : List ℕ). starts_with nat_eq x path) (sym (append-nil path)) ∙ begins path []) h in
        let no_ : true ≡ false = sym here ∙ off in absurd cc

all_none : (settings : List Setting) (path : List ℕ) → ((k : Setting) → Among k settings → starts_with nat_eq k.path.items path ≡ false) → begins_one settings path ≡ false
all_none [] path f = refl
all_none (s ∷ settings) path f = ap₂ (λ b c. b || c) (f s (inl refl)) (all_none settings path (λ k a. f k (inr a)))

at_first : (s : Setting) (settings : List Setting) (path : List ℕ) → IsRising (s ∷ settings) → is_before path s ≡ false → (b : Bool) → starts_with nat_eq s.path.items path ≡ b
    → (b || begins_one settings path) ≡ b
at_first s settings path h e true is = refl
at_first s settings path h e false is =
    all_none settings path (λ k a. none_after s settings path (key_cmp s.path.items path) refl e is k (first_below s settings h k a))

pub first_begins : (settings : List Setting) (path : List ℕ) (r : ℕ) (d : Setting) → IsRising settings → r < length settings
    → AllWithin (λ (s : Setting). is_before path s ≡ true) settings 0 r → AllWithin (λ (s : Setting). is_before path s ≡ false) settings r (length settings)
    → begins_one settings path ≡ starts_with nat_eq (get_or settings r d).path.items path
first_begins [] path r d h few a b = absurd (omega arith)
first_begins (s ∷ settings) path zero d h few a b =
    at_first s settings path h (b 0 s (omega arith) (omega arith)) (starts_with nat_eq s.path.items path) refl
first_begins (s ∷ settings) path (suc r) d h few a b =
    ap (λ t. t || begins_one settings path) (off_below s path (a 0 s (omega arith) (omega arith)))
    ∙ first_begins settings path r d (rest_rises s settings h) (omega arith) (λ k e low high. a (suc k) e (omega arith) (omega arith))
    (λ k e low high. b (suc k) e (omega arith) (omega arith))

-- ---- from where on no key is below a path

-- those before one that is below the path are below it
pub below_before : (settings : List Setting) (path : List ℕ) (at r : ℕ) (d : Setting) → IsRising settings → at < length settings → is_before path (get_or settings at d) ≡ true
    → AllWithin (λ (s : Setting). is_before path s ≡ true) settings (at + 1) r → AllWithin (λ (s : Setting). is_before path s ≡ true) settings 0 r
below_before settings path at r d h few is after k e low high = elim (cases_lt at k) [
  | inl later ↦ after k e (omega (arith, later)) high
  | inr first ↦ parted settings path h k at e (omega (arith, first)) few (ap (is_before path) (get_or_default settings at e d few) ∙ is)
]

-- none after one that isn't below it is below it
pub others_after : (settings : List Setting) (path : List ℕ) (r : ℕ) → IsRising settings → ((s : Setting) → r < length settings → is_before path (get_or settings r s) ≡ false)
    → AllWithin (λ (s : Setting). is_before path s ≡ false) settings r (length settings)
others_after settings path r h stops k e low high = by_test (is_before path (get_or settings k e)) refl
  where
    by_test : (b : Bool) → is_before path (get_or settings k e) ≡ b → b ≡ false
    by_test false is = refl
    by_test true is = let no_ : true ≡ false = sym (parted settings path h r k e low high is) ∙ stops e (omega arith) in absurd cc
