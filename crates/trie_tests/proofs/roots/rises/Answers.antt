use Rattle.std.proofs.Common.{◌≡◌, ℕ, ◌+◌, ◌-◌, ◌<◌, ◌≤◌, List, [], ◌∷◌, length, get_or, drop, T, refl, sym, ap, subst, ◌∙◌, arith, length-drop}
use Rattle.std.specs.Ordering.{nat_cmp, is_lt}
use Rattle.std.specs.declared.cmp.Ordering.{Ordering}
use Rattle.std.specs.declared.cmp.Ordering.TheVariants.{Less, Equal, Greater}
use Rattle.std.specs.Cmp.Lexicographic.{slice_cmp}
use Rattle.std.specs.FinMap.{is_sorted}
use Rattle.std.proofs.lemmas.Cmp.{nat_list_cmp_total}
use Rattle.std.proofs.lemmas.Float.{T_from_true}
use Rattle.std.proofs.lemmas.List.{drop_more}
use Rattle.sdb_base.specs.declared.Pair.{Pair}
use Rattle.trie_root.specs.Pairs.{KeysRise, entries_of}
use Rattle.trie_root.proofs.Ends.{below_all, first_of_and, second_of_and}
use Rattle.trie_root.proofs.Stripped.{and, true_from_T}
use Rattle.trie_tests.proofs.roots.rises.Goals as goal

less_from_T : (o : Ordering) → T (is_lt o) → o ≡ Less
less_from_T Less h = refl
less_from_T Equal h = absurd h
less_from_T Greater h = absurd h

below_further : (k l : List ℕ) (ps : List Pair) → T (is_lt (slice_cmp nat_cmp k l)) → T (below_all l (entries_of ps)) → T (below_all k (entries_of ps))
below_further k l [] h b = tt
below_further k l (p ∷ ps) h b =
    let first : slice_cmp nat_cmp k p.key ≡ Less =
    nat_list_cmp_total.trans k l p.key (less_from_T _ h) (less_from_T _ (first_of_and _ (below_all l (entries_of ps)) b)) in
    and _ _ (subst (λ o. T (is_lt o)) (sym first) tt)
    (below_further k l ps h (second_of_and (is_lt (slice_cmp nat_cmp l p.key)) (below_all l (entries_of ps)) b))

one_lower : (p q : Pair) (ps : List Pair) → T (is_lt (slice_cmp nat_cmp p.key q.key)) → KeysRise (q ∷ ps) → KeysRise (p ∷ (q ∷ ps))
one_lower p q ps h r =
    let rest : T (is_sorted (slice_cmp nat_cmp) (entries_of (q ∷ ps))) = T_from_true _ r in
    true_from_T _ (and _ _
    (and _ _ h (below_further p.key q.key ps h (first_of_and (below_all q.key (entries_of ps)) (is_sorted (slice_cmp nat_cmp) (entries_of ps)) rest)))
    rest)

one_more : (ps : List Pair) (i : ℕ) (p q : Pair) → i + 1 < length ps → p ≡ get_or ps i p → q ≡ get_or ps (i + 1) q
    → T (is_lt (slice_cmp nat_cmp p.key q.key)) → KeysRise (drop (i + 1) ps) → KeysRise (drop i ps)
one_more ps i p q h e k lower rise =
    let next : drop (i + 1) ps ≡ q ∷ drop (i + 1 + 1) ps =
    drop_more ps (i + 1) q h ∙ ap (λ (x : Pair). x ∷ drop (i + 1 + 1) ps) (sym k) in
    let all : drop i ps ≡ p ∷ (q ∷ drop (i + 1 + 1) ps) =
    drop_more ps i p (omega arith) ∙ ap (λ (x : Pair). x ∷ drop (i + 1) ps) (sym e) ∙ ap (λ (xs : List Pair). p ∷ xs) next in
    subst KeysRise (sym all) (one_lower p q (drop (i + 1 + 1) ps) lower (subst KeysRise next rise))

one_alone : (ps : List Pair) → length ps ≤ 1 → KeysRise ps
one_alone [] h = refl
one_alone (p ∷ []) h = refl
one_alone (p ∷ (q ∷ ps)) h = absurd (omega arith)

pub loop-i-init : goal.loop-i-init
loop-i-init c =
    let ps = c.args.pairs.now in one_alone (drop (length ps - 1) ps) (omega (arith, length-drop (length ps - 1) ps))

pub loop-i-preserved : goal.loop-i-preserved
loop-i-preserved c =
    let ps = c.args.pairs.now in
    let i = c.loop-i.i - 1 - 1 in
    let p = c.index-pairs-i.result in
    let q = c.index-pairs-i-in-loop-i.result in
    let next : c.loop-i.i - 1 ≡ i + 1 = omega arith in
    let order : slice_cmp nat_cmp p.key q.key ≡ c.cmp.result =
    ap (λ (x : Pair). slice_cmp nat_cmp x.key q.key) c.index-pairs-i.is
    ∙ ap (λ (x : Pair). slice_cmp nat_cmp (get_or ps i p).key x.key) c.index-pairs-i-in-loop-i.is
    ∙ sym c.cmp.ensures in
    one_more ps i p q (omega arith) c.index-pairs-i.is (subst (λ (n : ℕ). q ≡ get_or ps n q) next c.index-pairs-i-in-loop-i.is)
    (T_from_true _ (ap is_lt order ∙ sym c.if-not-is_lt.ensures))
    (subst (λ (n : ℕ). KeysRise (drop n ps)) next c.loop-i.invariant)
