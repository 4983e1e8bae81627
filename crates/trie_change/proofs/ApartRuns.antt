-- Siblings of a run, off the way to the keys that are set, are apart from these.
use Rattle.std.proofs.Common.{◌≡◌, ◌⊎◌, ℕ, ◌<◌, ◌≤◌, false, true, List, [], ◌∷◌, ◌++◌, refl, ap, ap₂, sym, ◌∙◌, inl, inr, arith, append_assoc}
use Rattle.std.specs.Prelude.{nat_eq}
use Rattle.std.specs.List.{AllByRecursion, starts_with}
use Rattle.std.specs.Ordering.{nat_cmp, ordering_then}
use Rattle.std.specs.declared.cmp.Ordering.{Ordering}
use Rattle.std.specs.declared.cmp.Ordering.TheVariants.{Less, Equal, Greater}
use Rattle.std.specs.Cmp.{nat_cmp_is}
use Rattle.std.proofs.lemmas.Bool.{cases_lt}
use Rattle.std.proofs.lemmas.Cmp.{nat_cmp_total, ranked, tied_itself}
use Rattle.trie_read.proofs.Rising.{all_weaker}
use Rattle.trie_change.specs.Frontier.{item_path}
use Rattle.trie_change.specs.Item.{Item}
use Rattle.trie_change.specs.declared.frontier.Sibling.{Sibling}
use Rattle.trie_change.specs.declared.settings.Setting.{Setting}
use Rattle.trie_change.specs.inner.InOrder.{IsOff, begins_one}
use Rattle.trie_change.specs.inner.Pieces.{AreAside, IsBeside, sibling_items}
use Rattle.trie_change.proofs.Disjoint.{begins}
use Rattle.trie_change.proofs.HangingBetween.{neither_true}
use Rattle.trie_change.proofs.Orders.{key_cmp}
use Rattle.trie_change.proofs.SiblingRuns.{AreUnset, IsRun, IsWithin}

-- ---- how a key stands to the paths with one nibble more

abbrev StandsAt : List ℕ → List ℕ → Ordering → Type 0
StandsAt end key o = (n : ℕ) → key_cmp (end ++ n ∷ []) key ≡ o

abbrev GoesOn : List ℕ → List ℕ → Type 0
GoesOn end key = (k : ℕ) × (r : List ℕ) × (key ≡ end ++ k ∷ r)

stands : (end key : List ℕ) → StandsAt end key Greater ⊎ (StandsAt end key Less ⊎ GoesOn end key)
stands [] [] = inl (λ n. refl)
stands [] (k ∷ r) = inr (inr (k, r, refl))
stands (x ∷ end) [] = inl (λ n. refl)
stands (x ∷ end) (y ∷ key) = by_first (stands end key) (nat_cmp x y) refl
  where
    step : (o : Ordering) → nat_cmp x y ≡ o → (n : ℕ) → key_cmp ((x ∷ end) ++ n ∷ []) (y ∷ key) ≡ ordering_then o (key_cmp (end ++ n ∷ []) key)
    step o e n = ap (λ p. ordering_then p (key_cmp (end ++ n ∷ []) key)) e

    by_first : StandsAt end key Greater ⊎ (StandsAt end key Less ⊎ GoesOn end key) → (o : Ordering) → nat_cmp x y ≡ o
        → StandsAt (x ∷ end) (y ∷ key) Greater ⊎ (StandsAt (x ∷ end) (y ∷ key) Less ⊎ GoesOn (x ∷ end) (y ∷ key))
    by_first rest Less e = inr (inl (λ n. step Less e n))
    by_first rest Greater e = inl (λ n. step Greater e n)
    by_first (inl f) Equal e = inl (λ n. step Equal e n ∙ f n)
    by_first (inr (inl f)) Equal e = inr (inl (λ n. step Equal e n ∙ f n))
    by_first (inr (inr g)) Equal e = inr (inr (g.0, g.1, ap₂ (λ (a : ℕ) (b : List ℕ). a ∷ b) (sym (ranked x y Equal (sym e))) g.2))

by_nibble : (end r : List ℕ) (n k : ℕ) (o : Ordering) → (o ≡ Equal → ⊥) → o ≡ nat_cmp n k → key_cmp (end ++ n ∷ []) (end ++ k ∷ r) ≡ o
by_nibble [] r n k Less not e = ap (λ p. ordering_then p (key_cmp [] r)) (sym e)
by_nibble [] r n k Greater not e = ap (λ p. ordering_then p (key_cmp [] r)) (sym e)
by_nibble [] r n k Equal not e = absurd (not refl)
by_nibble (x ∷ end) r n k o not e = ap (λ p. ordering_then p (key_cmp (end ++ n ∷ []) (end ++ k ∷ r))) (tied_itself nat_cmp_total x) ∙ by_nibble end r n k o not e

-- ---- a run is apart

abbrev StandAll : List ℕ → List ℕ → Ordering → List Sibling → Type 0
StandAll end key o nodes = AllByRecursion (λ (s : Sibling). key_cmp (end ++ s.nibble ∷ []) key ≡ o) nodes

all_nodes : (end key : List ℕ) (o : Ordering) (nodes : List Sibling) → StandAll end key o nodes
    → AllByRecursion (λ (i : Item). key_cmp (item_path i) key ≡ o) (sibling_items end nodes)
all_nodes end key o [] a = tt
all_nodes end key o (s ∷ nodes) a = (a.0, all_nodes end key o nodes a.1)

one_beside : (end key : List ℕ) (from to : ℕ) (nodes : List Sibling) → AllByRecursion (IsWithin from to) nodes
    → ((n : ℕ) → from ≤ n → n < to → starts_with nat_eq key (end ++ n ∷ []) ≡ false) → IsBeside key (sibling_items end nodes)
one_beside end key from to nodes a off = by_cases (stands end key)
  where
    fixed : (o : Ordering) → StandsAt end key o → StandAll end key o nodes
    fixed o f = all_weaker (IsWithin from to) (λ (s : Sibling). key_cmp (end ++ s.nibble ∷ []) key ≡ o) (λ s h. f s.nibble) nodes a

    gone : (k : ℕ) (r : List ℕ) → key ≡ end ++ k ∷ r → (o : Ordering) → (o ≡ Equal → ⊥) → ((s : Sibling) → IsWithin from to s → o ≡ nat_cmp s.nibble k)
        → StandAll end key o nodes
    gone k r e o not f =
        all_weaker (IsWithin from to) (λ (s : Sibling). key_cmp (end ++ s.nibble ∷ []) key ≡ o)
        (λ s h. ap (λ (x : List ℕ). key_cmp (end ++ s.nibble ∷ []) x) e ∙ by_nibble end r s.nibble k o not (f s h)) nodes a

    not_greater : Greater ≡ Equal → ⊥
    not_greater h = cc

    not_less : Less ≡ Equal → ⊥
    not_less h = cc

    begun : (k : ℕ) (r : List ℕ) → key ≡ end ++ k ∷ r → starts_with nat_eq key (end ++ k ∷ []) ≡ true
    begun k r e = ap (λ (x : List ℕ). starts_with nat_eq x (end ++ k ∷ [])) (e ∙ sym (append_assoc end (k ∷ []) r)) ∙ begins (end ++ k ∷ []) r

    by_place : (k : ℕ) (r : List ℕ) → key ≡ end ++ k ∷ r → (k < from) ⊎ (from ≤ k) → (k < to) ⊎ (to ≤ k) → IsBeside key (sibling_items end nodes)
    by_place k r e (inl low) high = inl (all_nodes end key Greater nodes (gone k r e Greater not_greater (λ s h. nat_cmp_is s.nibble k Greater (omega (arith, h)))))
    by_place k r e (inr low) (inr high) = inr (all_nodes end key Less nodes (gone k r e Less not_less (λ s h. nat_cmp_is s.nibble k Less (omega (arith, h)))))
    by_place k r e (inr low) (inl high) = let no : true ≡ false = sym (begun k r e) ∙ off k low high in absurd cc

    by_cases : StandsAt end key Greater ⊎ (StandsAt end key Less ⊎ GoesOn end key) → IsBeside key (sibling_items end nodes)
    by_cases (inl f) = inl (all_nodes end key Greater nodes (fixed Greater f))
    by_cases (inr (inl f)) = inr (all_nodes end key Less nodes (fixed Less f))
    by_cases (inr (inr g)) = by_place g.0 g.1 g.2 (cases_lt g.0 from) (cases_lt g.0 to)

nodes_off : (settings : List Setting) (end : List ℕ) (from to : ℕ) (nodes : List Sibling) → AllByRecursion (IsWithin from to) nodes → AreUnset settings end from to
    → AllByRecursion (IsOff settings) (sibling_items end nodes)
nodes_off settings end from to [] a off = tt
nodes_off settings end from to (s ∷ nodes) a off = (off s.nibble a.0.0 a.0.1, nodes_off settings end from to nodes a.1 off)

all_beside : (settings : List Setting) (end : List ℕ) (from to : ℕ) (nodes : List Sibling) → AllByRecursion (IsWithin from to) nodes → AreUnset settings end from to
    → AllByRecursion (λ (s : Setting). IsBeside s.path.items (sibling_items end nodes)) settings
all_beside [] end from to nodes a off = tt
all_beside (s ∷ settings) end from to nodes a off =
    (one_beside end s.path.items from to nodes a (λ n low high. (parts n low high).0), all_beside settings end from to nodes a (λ n low high. (parts n low high).1))
  where
    parts : (n : ℕ) → from ≤ n → n < to → (starts_with nat_eq s.path.items (end ++ n ∷ []) ≡ false) × (begins_one settings (end ++ n ∷ []) ≡ false)
    parts n low high = neither_true (starts_with nat_eq s.path.items (end ++ n ∷ [])) (begins_one settings (end ++ n ∷ [])) (off n low high)

pub run_apart : (settings : List Setting) (end : List ℕ) (to : ℕ) (nodes : List Sibling) → IsRun settings end to nodes → AreAside settings (sibling_items end nodes)
run_apart settings end to nodes r =
    record { off = nodes_off settings end r.from to nodes r.within r.unset; beside = all_beside settings end r.from to nodes r.within r.unset }
