-- What a search keeps of parts in their order, and that it lets nothing go where that has no key.
use Rattle.std.proofs.Common.{◌≡◌, ℕ, true, false, List, [], ◌∷◌, ◌++◌, refl, ap, sym, ◌∙◌, inl, inr}
use Rattle.std.specs.List.{AllByRecursion, flat_map}
use Rattle.std.proofs.lemmas.List.{append-nil}
use Rattle.trie_model.specs.Trie.{Suffix, below}
use Rattle.trie_read.specs.inner.Parts.{HangsAbove, IsLed, IsPiece, OfKey, OfNode, Piece, first_two_of, is_above, keys_for, keys_under, leads_above, after_two_of}
use Rattle.trie_read.proofs.KeysAbove.{some_under}

-- ---- what is kept and what is let go

pub front_and_rest : (ps : List Piece) → first_two_of ps ++ after_two_of ps ≡ ps
front_and_rest [] = refl
front_and_rest (OfKey k ∷ ps) = refl
front_and_rest (OfNode h p ∷ []) = refl
front_and_rest (OfNode h p ∷ (x ∷ ps)) = refl

module _ (ss : List Suffix) (q : List ℕ) where
  abbrev Keys : List Piece → List (List ℕ)
  Keys ps = flat_map (keys_for ss (is_above q)) ps

  -- a node that hangs above and stands for something has a key
  pub has_key : (p : Piece) → IsPiece ss (leads_above q) p → HangsAbove q p → keys_for ss (is_above q) p ≡ [] → ⊥
  has_key (OfKey k) is above e = let no : k ∷ [] ≡ [] = e in cc
  has_key (OfNode h p) is above e = elim is.some [
    | inl root ↦ off_root q (ap (is_above q) (sym root) ∙ above)
    | inr some ↦ some_under q p (below p ss) above some e
  ]
    where
      off_root : (ns : List ℕ) → is_above ns [] ≡ true → ⊥
      off_root [] h = let no : false ≡ true = h in cc
      off_root (x ∷ ns) h = let no : false ≡ true = h in cc

  both_none : (xs ys : List (List ℕ)) → xs ++ ys ≡ [] → (xs ≡ []) × (ys ≡ [])
  both_none [] ys e = (refl, e)
  both_none (x ∷ xs) ys e = let no : x ∷ (xs ++ ys) ≡ [] = e in absurd cc

  -- where what is kept has no key, nothing was let go
  pub nothing_let_go : (ps : List Piece) → AllByRecursion (IsPiece ss (leads_above q)) ps → IsLed q ps → Keys (first_two_of ps) ≡ [] → (after_two_of ps ≡ []) × (Keys ps ≡ [])
  nothing_let_go [] s l e = (refl, refl)
  nothing_let_go (OfKey k ∷ ps) s l e = let no : k ∷ [] ≡ [] = e in absurd cc
  nothing_let_go (OfNode h p ∷ []) s l e = (refl, e)
  nothing_let_go (OfNode h p ∷ (x ∷ ps)) s l e =
      let second : keys_for ss (is_above q) x ++ [] ≡ [] = (both_none (keys_under (is_above q) p (below p ss)) (keys_for ss (is_above q) x ++ []) e).1 in
      absurd (has_key x s.1.0 l.0 (sym (append-nil (keys_for ss (is_above q) x)) ∙ second))
