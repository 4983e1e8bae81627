-- A stub that alone stands for what goes on with a path hangs at that path.
use Rattle.std.proofs.Common.{◌≡◌, ℕ, true, eqb, List, [], ◌∷◌, ◌++◌, length, reverse, drop, refl, ap, sym, ◌∙◌, append_assoc, eq-eqb, inl, inr}
use Rattle.std.proofs.lemmas.List.{append-nil, reverse-append, reverse-reverse}
use Rattle.trie_model.specs.Trie.{Suffix, below, common, common_prefix, with_prefix}
use Rattle.trie_root.proofs.Prefixes.{below-append}
use Rattle.trie_read.specs.Paths.{Hangs}
use Rattle.trie_change.specs.Item as item
use Rattle.trie_change.specs.declared.frontier.Stub.{Stub}
use Rattle.trie_change.specs.inner.Built.{ItemGroup}
use Rattle.trie_change.proofs.FedNodes.{ended}
use Rattle.trie_change.proofs.ItemSuffixes.{below_with, prefixes_joined}

first_alike : (x y : ℕ) (xs ys : List ℕ) → x ∷ xs ≡ y ∷ ys → (x ≡ y) × (xs ≡ ys)
first_alike x y xs ys e = (cc, cc)

last_alike : (xs ys : List ℕ) (x y : ℕ) → xs ++ x ∷ [] ≡ ys ++ y ∷ [] → (xs ≡ ys) × (x ≡ y)
last_alike xs ys x y e =
    let back : x ∷ reverse xs ≡ y ∷ reverse ys = sym (reverse-append xs (x ∷ [])) ∙ ap (λ (t : List ℕ). reverse t) e ∙ reverse-append ys (y ∷ []) in
    let both = first_alike x y (reverse xs) (reverse ys) back in
    (sym (twice xs) ∙ ap (λ (t : List ℕ). reverse t) both.1 ∙ twice ys, both.0)
  where
    twice : (ns : List ℕ) → reverse (reverse ns) ≡ ns
    twice ns = reverse-reverse ns

-- with a nibble put before them suffixes share that nibble
shared_nibble : (n : ℕ) (s : Suffix) (ss : List Suffix) → common_prefix (with_prefix (n ∷ []) (s ∷ ss)) ≡ n ∷ common_prefix (s ∷ ss)
shared_nibble n s [] = refl
shared_nibble n s (t ∷ ss) =
    let same : eqb n n ≡ true = eq-eqb n n refl in
    ap (common (n ∷ s.0)) (shared_nibble n t ss) ∙ rw same refl

some_shared : (n : ℕ) (ss : List Suffix) → (ss ≡ [] → ⊥) → common_prefix (with_prefix (n ∷ []) ss) ≡ [] → ⊥
some_shared n [] some e = some refl
some_shared n (s ∷ ss) some e = let no : n ∷ common_prefix (s ∷ ss) ≡ [] = sym (shared_nibble n s ss) ∙ e in cc

module _ (at : ℕ) (s : Stub) (g : ItemGroup at (item.Stub s ∷ [])) where
  -- what goes on with the path, by the stub's
  all_below : (r : List ℕ) → s.path.items ≡ g.path ++ r → below g.path g.suffixes ≡ with_prefix r (below s.path.items g.suffixes)
  all_below r e =
      let v : List Suffix = below s.path.items g.suffixes in
      sym (below_with g.path (below g.path g.suffixes))
      ∙ ap (below g.path) (sym g.whole ∙ append-nil (with_prefix s.path.items v) ∙ ap (λ (q : List ℕ). with_prefix q v) e ∙ prefixes_joined g.path r v)
      ∙ below_with g.path (with_prefix r v)

  not_longer : (r : List ℕ) (n : ℕ) → s.path.items ≡ g.path ++ (r ++ n ∷ []) → Hangs g.suffixes s.path.items → ⊥
  not_longer r n e (inl none) = nothing g.path r n (sym e ∙ none)
    where
      nothing : (p r : List ℕ) (n : ℕ) → p ++ (r ++ n ∷ []) ≡ [] → ⊥
      nothing [] [] n e = cc
      nothing [] (x ∷ r) n e = cc
      nothing (x ∷ p) r n e = cc
  not_longer r n e (inr h) =
      let v : List Suffix = below s.path.items g.suffixes in
      let path : s.path.items ≡ (g.path ++ r) ++ n ∷ [] = e ∙ sym (append_assoc g.path r (n ∷ [])) in
      let same = last_alike h.0 (g.path ++ r) h.1 n (sym h.2 ∙ path) in
      let there : below h.0 g.suffixes ≡ with_prefix (n ∷ []) v =
      ap (λ (q : List ℕ). below q g.suffixes) same.0 ∙ below-append g.path r g.suffixes
      ∙ ap (below r) (all_below (r ++ n ∷ []) e ∙ prefixes_joined r (n ∷ []) v) ∙ below_with r (with_prefix (n ∷ []) v) in
      some_shared n v h.4 (sym (ap common_prefix there) ∙ h.3)

  pub stub_is_here : s.path.items ≡ g.path
  stub_is_here = by_rest (drop (length g.path) s.path.items) g.goes_on.0
    where
      by_rest : (r : List ℕ) → s.path.items ≡ g.path ++ r → s.path.items ≡ g.path
      by_rest r e = elim (ended r) [
        | inl none ↦ e ∙ ap (λ (t : List ℕ). g.path ++ t) none ∙ append-nil g.path
        | inr l ↦ absurd (not_longer l.0 l.1 (e ∙ ap (λ (t : List ℕ). g.path ++ t) l.2) g.hanging.0)
      ]
