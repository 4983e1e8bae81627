-- How a path with one nibble more stands to a key.
use Rattle.std.proofs.Common.{◌≡◌, ◌+◌, ◌<◌, ℕ, true, eqb, List, [], ◌∷◌, ◌++◌, length, get_or, refl, ap, sym, ◌∙◌, arith, eq-eqb, length-append}
use Rattle.std.specs.Prelude.{nat_eq}
use Rattle.std.specs.List.{starts_with}
use Rattle.std.specs.Ordering.{nat_cmp, ordering_then}
use Rattle.std.specs.declared.cmp.Ordering.{Ordering}
use Rattle.std.specs.declared.cmp.Ordering.TheVariants.{Less, Equal, Greater}
use Rattle.std.proofs.lemmas.Cmp.{nat_cmp_total, ranked, tied_itself}
use Rattle.trie_change.proofs.Disjoint.{goes_on_from}
use Rattle.trie_change.proofs.Orders.{key_cmp}

-- what two paths begin with counts for nothing
pub shared_cmp : (p a b : List ℕ) → key_cmp (p ++ a) (p ++ b) ≡ key_cmp a b
shared_cmp [] a b = refl
shared_cmp (x ∷ p) a b = ap (λ o. ordering_then o (key_cmp (p ++ a) (p ++ b))) (tied_itself nat_cmp_total x) ∙ shared_cmp p a b

-- ---- a key that goes on after the path

at_end : (p r : List ℕ) → length p < length (p ++ r) → (rest : List ℕ) × (r ≡ get_or (p ++ r) (length p) 0 ∷ rest)
at_end [] [] h = absurd (omega arith)
at_end [] (x ∷ r) h = (r, refl)
at_end (x ∷ p) r h = at_end p r (omega arith)

pub key_after : (end key : List ℕ) → length end < length key → starts_with nat_eq key end ≡ true → (rest : List ℕ) × (key ≡ end ++ get_or key (length end) 0 ∷ rest)
key_after end key few h =
    let on : (r : List ℕ) × (key ≡ end ++ r) = goes_on_from key end h in
    let after : (rest : List ℕ) × (on.0 ≡ get_or (end ++ on.0) (length end) 0 ∷ rest) = at_end end on.0 (omega (arith, ap length on.1)) in (
      after.0,
      on.1 ∙ ap (λ (r : List ℕ). end ++ r) after.1
          ∙ ap (λ (k : List ℕ). end ++ get_or k (length end) 0 ∷ after.0) (sym on.1),
    )

pub child_on_way : (end key : List ℕ) (n : ℕ) (rest : List ℕ) → key ≡ end ++ get_or key (length end) 0 ∷ rest
    → key_cmp (end ++ n ∷ []) key ≡ ordering_then (nat_cmp n (get_or key (length end) 0)) (key_cmp [] rest)
child_on_way end key n rest is =
    ap (key_cmp (end ++ n ∷ [])) is ∙ shared_cmp end (n ∷ []) (get_or key (length end) 0 ∷ rest)

-- ---- a key that doesn't

-- a longer path is above a key that the path itself is
abbrev pub of_longer : Ordering → Ordering
of_longer Less = Less
of_longer Equal = Greater
of_longer Greater = Greater

pub child_off_way : (end key : List ℕ) (n : ℕ) → (length end < length key → starts_with nat_eq key end ≡ true → ⊥)
    → key_cmp (end ++ n ∷ []) key ≡ of_longer (key_cmp end key)
child_off_way [] [] n off = refl
child_off_way [] (y ∷ key) n off = absurd (off (omega arith) refl)
child_off_way (x ∷ end) [] n off = refl
child_off_way (x ∷ end) (y ∷ key) n off =
    elim (nat_cmp x y) as (λ o. nat_cmp x y ≡ o → ordering_then o (key_cmp (end ++ n ∷ []) key) ≡ of_longer (ordering_then o (key_cmp end key))) [
      | Less ↦ λ is. refl
      | Equal ↦ λ is.
          let same : eqb x y ≡ true = eq-eqb x y (ranked x y Equal (sym is)) in
          child_off_way end key n (λ few h. off (omega arith) (rw same h))
      | Greater ↦ λ is. refl
    ] refl

-- ---- where the first nibble after the path decides, or not

pub decided : (o r : Ordering) → (o ≡ Equal → ⊥) → ordering_then o r ≡ o
decided Less r h = refl
decided Equal r h = absurd (h refl)
decided Greater r h = refl

pub longer_same : (o : Ordering) → (o ≡ Equal → ⊥) → of_longer o ≡ o
longer_same Less h = refl
longer_same Equal h = absurd (h refl)
longer_same Greater h = refl

pub ends_there : (end key rest : List ℕ) (x : ℕ) → key ≡ end ++ x ∷ rest → length key ≡ length end + 1 → key_cmp [] rest ≡ Equal
ends_there end key [] x is len = refl
ends_there end key (y ∷ rest) x is len = absurd (omega (arith, ap length is, length-append end (x ∷ y ∷ rest), len))

pub goes_further : (end key rest : List ℕ) (x : ℕ) → key ≡ end ++ x ∷ rest → (length key ≡ length end + 1 → ⊥) → key_cmp [] rest ≡ Less
goes_further end key [] x is len = absurd (len (ap length is ∙ length-append end (x ∷ [])))
goes_further end key (y ∷ rest) x is len = refl
