-- Two paths in order, of which neither goes on from the other, part at a nibble.
use Rattle.std.proofs.Common.{◌≡◌, ◌⊎◌, ℕ, ◌<◌, Bool, true, false, cond, List, [], ◌∷◌, ◌++◌, Some, None, T, refl, ap, subst, sym, ◌∙◌, inl, inr, eq-eqb}
use Rattle.std.specs.Ordering.{is_lt, nat_cmp, ordering_then}
use Rattle.std.specs.declared.cmp.Ordering.TheVariants.{Less, Equal, Greater}
use Rattle.std.specs.Cmp.Lexicographic.{slice_cmp}
use Rattle.std.proofs.lemmas.Cmp.{ranked}
use Rattle.trie_model.specs.Trie.{after_prefix}
use Rattle.trie_change.specs.inner.Built.{PathBefore}
use Rattle.trie_change.proofs.LowerNodes.{IsLower}

-- a path doesn't go on with a prefix
abbrev pub IsNotWith : List ℕ → List ℕ → Type 0
IsNotWith p ns = (r : List ℕ) → after_prefix p ns ≡ Some r → ⊥

less_first : (m n : ℕ) (a b : List ℕ) → IsLower (m ∷ a) (n ∷ b) → (m < n) ⊎ ((m ≡ n) × IsLower a b)
less_first m n a b h = elim (nat_cmp m n) as (λ r. r ≡ nat_cmp m n → T (is_lt (ordering_then r (slice_cmp nat_cmp a b))) → (m < n) ⊎ ((m ≡ n) × IsLower a b)) [
  | Less ↦ λ e t. inl (ranked m n Less e)
  | Equal ↦ λ e t. inr (ranked m n Equal e, t)
  | Greater ↦ λ e t. absurd t
] refl h

pub apart_before : (e f : Bool) (a x b y : List ℕ) → IsLower (a ++ x) (b ++ y) → (e ≡ true → x ≡ []) → (f ≡ true → y ≡ [])
    → (e ≡ false → IsNotWith a (b ++ y)) → (f ≡ false → IsNotWith b (a ++ x)) → PathBefore e a b
apart_before true true [] x [] y h ex fy en fn = let lower : IsLower [] [] = subst (λ (t : List ℕ). IsLower t []) (ex refl) (subst (λ (t : List ℕ). IsLower x t) (fy refl) h) in absurd lower
apart_before true false [] x [] y h ex fy en fn = absurd (fn refl x refl)
apart_before false f [] x [] y h ex fy en fn = absurd (en refl y refl)
apart_before true f [] x (n ∷ b) y h ex fy en fn = refl
apart_before false f [] x (n ∷ b) y h ex fy en fn = absurd (en refl ((n ∷ b) ++ y) refl)
apart_before e true (m ∷ a) x [] y h ex fy en fn = let lower : IsLower ((m ∷ a) ++ x) [] = subst (λ (t : List ℕ). IsLower ((m ∷ a) ++ x) t) (fy refl) h in absurd lower
apart_before e false (m ∷ a) x [] y h ex fy en fn = absurd (fn refl ((m ∷ a) ++ x) refl)
apart_before e f (m ∷ a) x (n ∷ b) y h ex fy en fn = elim (less_first m n (a ++ x) (b ++ y) h) [
  | inl less ↦ inl less
  | inr same ↦
      inr (
        same.0,
        apart_before e f a x b y same.1 ex fy (λ k. λ r w. en k r (ap (λ t. cond t (after_prefix a (b ++ y)) None) (eq-eqb m n same.0) ∙ w))
            (λ k. λ r w. fn k r (ap (λ t. cond t (after_prefix b (a ++ x)) None) (eq-eqb n m (sym same.0)) ∙ w)),
      )
]
