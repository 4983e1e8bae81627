-- A sorted list without the prefix that all share is sorted, and a value stands at its front.
use Rattle.std.proofs.Common.{◌≡◌, ℕ, suc, inl, inr, arith, Bool, true, false, eqb, cond, List, [], ◌∷◌, length, map, drop, Some, None, T, refl, subst, sym, ap, ◌∙◌}
use Rattle.std.specs.Prelude.{◌&&◌}
use Rattle.std.specs.Ordering.{nat_cmp, is_lt, ordering_then}
use Rattle.std.specs.declared.cmp.Ordering.TheVariants.{Equal}
use Rattle.std.specs.Cmp.Lexicographic.{slice_cmp}
use Rattle.std.specs.FinMap.{is_sorted}
use Rattle.std.proofs.lemmas.Bool.Decides.{eqb_tells}
use Rattle.std.proofs.lemmas.Cmp.{nat_cmp_total, tied_itself}
use Rattle.trie_model.specs.Trie.{Suffix, below, common_prefix, value_here}
use Rattle.trie_root.proofs.Ends.{below_all, first_of_and, second_of_and}
use Rattle.trie_root.proofs.Prefixes.{Begins, all_remain, begins_both, begins_itself, begins_nothing, begins_parts, without}

pub tied : (n m : ℕ) → n ≡ m → nat_cmp n m ≡ Equal
tied n m e = subst (λ (k : ℕ). nat_cmp n k ≡ Equal) e (tied_itself nat_cmp_total n)

-- two lists that begin alike are in the order of what follows
pub slice_cmp-without : (p a b : List ℕ) → Begins p a → Begins p b
    → slice_cmp nat_cmp a b ≡ slice_cmp nat_cmp (drop (length p) a) (drop (length p) b)
slice_cmp-without [] a b h k = refl
slice_cmp-without (x ∷ p) [] b h k = absurd (begins_nothing x p h)
slice_cmp-without (x ∷ p) (n ∷ a) [] h k = absurd (begins_nothing x p k)
slice_cmp-without (x ∷ p) (n ∷ a) (m ∷ b) h k =
    let one : (x ≡ n) × Begins p a = begins_parts x n p a h in
    let two : (x ≡ m) × Begins p b = begins_parts x m p b k in
    let tie : nat_cmp n m ≡ Equal = tied n m (sym one.0 ∙ two.0) in
    ap (λ o. ordering_then o (slice_cmp nat_cmp a b)) tie ∙ slice_cmp-without p a b one.1 two.1

abbrev pub AllBegin : List ℕ → List Suffix → Type 0
AllBegin p [] = Unit {0}
AllBegin p (s ∷ ss) = Begins p s.0 × AllBegin p ss

pub all_begin : (p : List ℕ) (ss : List Suffix) → Begins p (common_prefix ss) → AllBegin p ss
all_begin p [] h = tt
all_begin p (s ∷ []) h = (h, tt)
all_begin p (s ∷ (t ∷ ss)) h =
    let both : Begins p s.0 × Begins p (common_prefix (t ∷ ss)) = begins_both p s.0 (common_prefix (t ∷ ss)) h in
    (both.0, all_begin p (t ∷ ss) both.1)

pub and : (a b : Bool) → T a → T b → T (a && b)
and true b h k = k
and false b h k = absurd h

below_all-without : (p a : List ℕ) (ss : List Suffix) → Begins p a → AllBegin p ss → T (below_all a ss)
    → T (below_all (drop (length p) a) (map (without (length p)) ss))
below_all-without p a [] h k b = tt
below_all-without p a (s ∷ ss) h k b =
    and _ _ (subst (λ o. T (is_lt o)) (slice_cmp-without p a s.0 h k.0) (first_of_and _ (below_all a ss) b))
    (below_all-without p a ss h k.1 (second_of_and (is_lt (slice_cmp nat_cmp a s.0)) (below_all a ss) b))

pub is_sorted-without : (p : List ℕ) (ss : List Suffix) → AllBegin p ss → T (is_sorted (slice_cmp nat_cmp) ss)
    → T (is_sorted (slice_cmp nat_cmp) (map (without (length p)) ss))
is_sorted-without p [] k s = tt
is_sorted-without p (t ∷ ts) k s =
    and _ _ (below_all-without p t.0 ts k.0 k.1 (first_of_and (below_all t.0 ts) (is_sorted (slice_cmp nat_cmp) ts) s))
    (is_sorted-without p ts k.1 (second_of_and (below_all t.0 ts) (is_sorted (slice_cmp nat_cmp) ts) s))

pub is_sorted-below : (ss : List Suffix) → T (is_sorted (slice_cmp nat_cmp) ss)
    → T (is_sorted (slice_cmp nat_cmp) (below (common_prefix ss) ss))
is_sorted-below ss s =
    let p = common_prefix ss in
    subst (λ (ts : List Suffix). T (is_sorted (slice_cmp nat_cmp) ts)) (sym (all_remain p ss (begins_itself p)))
    (is_sorted-without p ss (all_begin p ss (begins_itself p)) s)

not_none : (n : ℕ) → eqb (suc n) 0 ≡ false
not_none n = elim (eqb_tells (suc n) 0) [ inl t ↦ absurd (omega (arith, t.1)) | inr f ↦ f.0 ]

no_value : (ks : List ℕ) (ss : List Suffix) → T (below_all ks ss) → value_here ss ≡ None
no_value ks [] b = refl
no_value ks (s ∷ ss) b = no_value_next ks s.0 s.1 ss (first_of_and _ (below_all ks ss) b) (no_value ks ss (second_of_and (is_lt (slice_cmp nat_cmp ks s.0)) _ b))
  where
    no_value_next : (ks ns v : List ℕ) (ss : List Suffix) → T (is_lt (slice_cmp nat_cmp ks ns)) → value_here ss ≡ None → value_here ((ns, v) ∷ ss) ≡ None
    no_value_next [] [] v ss lt e = absurd lt
    no_value_next (k ∷ ks) [] v ss lt e = absurd lt
    no_value_next ks (n ∷ ns) v ss lt e = let longer : eqb (suc (length ns)) 0 ≡ false = not_none (length ns) in rw longer e

pub value_first : (s : Suffix) (ss : List Suffix) → T (is_sorted (slice_cmp nat_cmp) (s ∷ ss))
    → value_here (s ∷ ss) ≡ cond (eqb (length s.0) 0) (Some s.1) None
value_first s ss h = ap (λ o. cond (eqb (length s.0) 0) (Some s.1) o) (no_value s.0 ss (first_of_and (below_all s.0 ss) (is_sorted (slice_cmp nat_cmp) ss) h))

pub true_from_T : (b : Bool) → T b → b ≡ true
true_from_T true h = refl
true_from_T false h = absurd h
