-- Entries whose keys are put in nibbles keep their order, and what is found among them.
use Rattle.std.proofs.Common.{◌≡◌, ℕ, Bool, true, false, cond, List, [], ◌∷◌, map, Some, T, refl, ap, ap₂, sym, ◌∙◌, inl, inr}
use Rattle.std.specs.Ordering.{eq_by_cmp, is_eq, is_lt}
use Rattle.std.specs.declared.cmp.Ordering.{Ordering}
use Rattle.std.specs.declared.cmp.Ordering.TheVariants.{Less, Equal, Greater}
use Rattle.std.specs.FinMap.{find, is_sorted}
use Rattle.std.specs.FinMap.Entries.{below_all}
use Rattle.std.specs.Str.{bytes_eq}
use Rattle.std.proofs.lemmas.Cmp.{nat_list_cmp_total, tied_itself}
use Rattle.std.proofs.lemmas.Slice.Eq.{bytes_eq-Decides}
use Rattle.sdb_base.specs.Nibbles.{nibbles_of}
use Rattle.trie_model.proofs.States.{key_ties}
use Rattle.trie_root.proofs.Ends.{first_of_and, second_of_and}
use Rattle.trie_root.proofs.Rising.{nibbles_rise}
use Rattle.trie_root.proofs.Stripped.{and}
use Rattle.trie_read.proofs.Among.{Among}
use Rattle.trie_read.proofs.Binding.{nibbles_bind}
use Rattle.trie_change.proofs.MergedSteps.{same_key}
use Rattle.trie_change.proofs.Orders.{above_one, found_there, key_cmp, unlike_more}

pub same_bools : (a b : Bool) → (a ≡ true → b ≡ true) → (b ≡ true → a ≡ true) → a ≡ b
same_bools true b f g = sym (f refl)
same_bools false true f g = g refl
same_bools false false f g = refl

alike_bytes : (a b : List ℕ) → bytes_eq (nibbles_of a) (nibbles_of b) ≡ bytes_eq a b
alike_bytes a b =
    same_bools (bytes_eq (nibbles_of a) (nibbles_of b)) (bytes_eq a b)
    (λ e. (bytes_eq-Decides a b).1 (nibbles_bind a b ((bytes_eq-Decides (nibbles_of a) (nibbles_of b)).0 e)))
    (λ e. (bytes_eq-Decides (nibbles_of a) (nibbles_of b)).1 (ap nibbles_of ((bytes_eq-Decides a b).0 e)))

alike_ties : (a b : List ℕ) → eq_by_cmp key_cmp (nibbles_of a) (nibbles_of b) ≡ eq_by_cmp key_cmp a b
alike_ties a b = key_ties (nibbles_of b) (nibbles_of a) ∙ alike_bytes b a ∙ sym (key_ties b a)

module _ {X : Type 0} where
  abbrev pub nibbled : List (List ℕ × X) → List (List ℕ × X)
  nibbled es = map (λ e. (nibbles_of e.0, e.1)) es

  below_nibbled : (k : List ℕ) (es : List (List ℕ × X)) → T (below_all key_cmp k es) → T (below_all key_cmp (nibbles_of k) (nibbled es))
  below_nibbled k [] h = tt
  below_nibbled k (e ∷ es) h =
      and _ _ (nibbles_rise k e.0 (first_of_and _ (below_all key_cmp k es) h)) (below_nibbled k es (second_of_and (is_lt (key_cmp k e.0)) _ h))

  pub sorted_nibbled : (es : List (List ℕ × X)) → T (is_sorted key_cmp es) → T (is_sorted key_cmp (nibbled es))
  sorted_nibbled [] h = tt
  sorted_nibbled (e ∷ es) h =
      and _ _ (below_nibbled e.0 es (first_of_and _ (is_sorted key_cmp es) h)) (sorted_nibbled es (second_of_and (below_all key_cmp e.0 es) _ h))

  pub found_nibbled : (k : List ℕ) (es : List (List ℕ × X)) → find key_cmp (nibbles_of k) (nibbled es) ≡ find key_cmp k es
  found_nibbled k [] = refl
  found_nibbled k (e ∷ es) = ap₂ (λ b o. cond b (Some e.1) o) (alike_ties k e.0) (found_nibbled k es)

  of_a_key : (es : List (List ℕ × X)) (e : List ℕ × X) → Among e (nibbled es) → (k : List ℕ) × (e.0 ≡ nibbles_of k)
  of_a_key [] e a = absurd a
  of_a_key (x ∷ es) e (inl same) = (x.0, ap (λ (z : List ℕ × X). z.0) (sym same))
  of_a_key (x ∷ es) e (inr a) = of_a_key es e a

  -- what is found is of a key
  pub key_found : (q : List ℕ) (es : List (List ℕ × X)) (x : X) → find key_cmp q (nibbled es) ≡ Some x → (k : List ℕ) × (q ≡ nibbles_of k)
  key_found q es x h =
      let e : (e : List ℕ × X) × Among e (nibbled es) × (key_cmp q e.0 ≡ Equal) = found_there q (nibbled es) x h in
      let k : (k : List ℕ) × (e.0.0 ≡ nibbles_of k) = of_a_key es e.0 e.1 in
      (k.0, same_key q e.0.0 e.2 ∙ k.1)

  above_there : (k : List ℕ) (es : List (List ℕ × X)) (e : List ℕ × X) → T (below_all key_cmp k es) → Among e es → eq_by_cmp key_cmp e.0 k ≡ false
  above_there k es e h a = unlike_more e.0 k (above_one k es e h a)

  -- an entry is found by its key
  pub found_itself : (es : List (List ℕ × X)) (e : List ℕ × X) → T (is_sorted key_cmp es) → Among e es → find key_cmp e.0 es ≡ Some e.1
  found_itself [] e h a = absurd a
  found_itself (x ∷ es) e h (inl same) =
      ap (λ b. cond b (Some x.1) (find key_cmp e.0 es)) (ap (λ (z : List ℕ × X). eq_by_cmp key_cmp z.0 x.0) (sym same) ∙ ap is_eq (tied_itself nat_list_cmp_total x.0))
      ∙ ap (λ (z : List ℕ × X). Some z.1) same
  found_itself (x ∷ es) e h (inr a) =
      ap (λ b. cond b (Some x.1) (find key_cmp e.0 es)) (above_there x.0 es e (first_of_and _ (is_sorted key_cmp es) h) a)
      ∙ found_itself es e (second_of_and (below_all key_cmp x.0 es) _ h) a

  -- and what is found by a key is its entry
  pub entry_found : (k : List ℕ) (es : List (List ℕ × X)) (x : X) → find key_cmp k es ≡ Some x → Among (k, x) es
  entry_found k [] x h = absurd cc
  entry_found k (e ∷ es) x h = by_test (entry_found k es x) (key_cmp k e.0) refl
    where
      by_test : (find key_cmp k es ≡ Some x → Among (k, x) es) → (o : Ordering) → key_cmp k e.0 ≡ o → Among (k, x) (e ∷ es)
      by_test further Equal is =
          let value : Some e.1 ≡ Some x = sym (ap (λ o. cond (is_eq o) (Some e.1) (find key_cmp k es)) is) ∙ h in
          let same : e.1 ≡ x = cc in
          inl (ap₂ (λ (a : List ℕ) (b : X). let z : List ℕ × X = (a, b) in z) (sym (same_key k e.0 is)) same)
      by_test further Less is = inr (further (sym (ap (λ o. cond (is_eq o) (Some e.1) (find key_cmp k es)) is) ∙ h))
      by_test further Greater is = inr (further (sym (ap (λ o. cond (is_eq o) (Some e.1) (find key_cmp k es)) is) ∙ h))
