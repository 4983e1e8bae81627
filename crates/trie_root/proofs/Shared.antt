-- What two lists share, one item after another.
use Rattle.std.proofs.Common.{◌≡◌, ℕ, suc, ◌+◌, ◌<◌, ◌≤◌, true, false, eqb, List, [], ◌∷◌, length, get_or, drop, refl, ap, eq-eqb, inl, inr}
use Rattle.std.proofs.lemmas.List.{drop_all, drop_more}
use Rattle.std.proofs.lemmas.Bool.Decides.{eqb_tells}
use Rattle.trie_model.specs.Trie.{common}

pub common-nil : (xs : List ℕ) → common xs [] ≡ []
common-nil [] = refl
common-nil (x ∷ xs) = refl

pub one_more_shared : (a b : List ℕ) (i : ℕ) → i < length a → i < length b → get_or a i 0 ≡ get_or b i 0
    → length (common (drop i a) (drop i b)) ≡ suc (length (common (drop (i + 1) a) (drop (i + 1) b)))
one_more_shared a b i h k e =
    let same : eqb (get_or a i 0) (get_or b i 0) ≡ true = eq-eqb _ _ e in
    rw (drop_more a i 0 h, drop_more b i 0 k, same)

pub no_more_shared : (a b : List ℕ) (i : ℕ) → i < length a → i < length b → (get_or a i 0 ≡ get_or b i 0 → ⊥)
    → length (common (drop i a) (drop i b)) ≡ 0
no_more_shared a b i h k e =
    let other : eqb (get_or a i 0) (get_or b i 0) ≡ false = elim (eqb_tells (get_or a i 0) (get_or b i 0)) [ inl t ↦ absurd (e t.1) | inr f ↦ f.0 ] in
    rw (drop_more a i 0 h, drop_more b i 0 k, other)

pub none_left_to_share : (a b : List ℕ) (i : ℕ) → length a ≤ i → length (common (drop i a) (drop i b)) ≡ 0
none_left_to_share a b i h = rw (drop_all i a h)

pub none_left_to_share_with : (a b : List ℕ) (i : ℕ) → length b ≤ i → length (common (drop i a) (drop i b)) ≡ 0
none_left_to_share_with a b i h = rw (drop_all i b h) (ap length (common-nil (drop i a)))
