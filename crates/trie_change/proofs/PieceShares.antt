-- What all items of a piece go on from is no longer than where the piece is, and so pieces share what their items do.
use Rattle.std.proofs.Common.{◌≡◌, ℕ, suc, ◌+◌, ◌<◌, ◌≤◌, Bool, true, false, cond, eqb, List, [], ◌∷◌, ◌++◌, length, drop, refl, ap, ap₂, subst, sym, ◌∙◌, inl, inr, length-append, length-drop, arith}
use Rattle.std.proofs.lemmas.List.{append-nil, drop-append-le}
use Rattle.trie_model.specs.Trie.{common}
use Rattle.trie_change.specs.declared.frontier.Piece.{Piece}
use Rattle.trie_change.specs.declared.frontier.Piece.TheVariants as piece
use Rattle.trie_change.specs.inner.Built.{ItemsRise, PathBefore}
use Rattle.trie_change.specs.inner.Pieces.{piece_items, piece_path, sibling_items}
use Rattle.trie_change.proofs.ItemPaths.{before_both}
use Rattle.trie_change.proofs.ItemSuffixes.{AllGoOn}
use Rattle.trie_change.proofs.PieceItems.{two_at_least}

-- ---- what all items of a piece go on from is no longer than where the piece is

longer : (q path : List ℕ) → path ≡ q ++ drop (length q) path → length q ≤ length path
longer q path e = omega (arith, ap length e, length-append q (drop (length q) path))

-- one nibble more at the end of a path
same_end : (end : List ℕ) (m n : ℕ) → end ++ m ∷ [] ≡ end ++ n ∷ [] → m ≡ n
same_end [] m n e = cc
same_end (x ∷ end) m n e = same_end end m n cc

nothing_more : (q path : List ℕ) → path ≡ q ++ drop (length q) path → length path ≤ length q → path ≡ q
nothing_more q path e h = e ∙ ap (λ (t : List ℕ). q ++ t) (short (drop (length q) path) (omega (arith, length-drop (length q) path))) ∙ append-nil q
  where
    short : (xs : List ℕ) → length xs ≤ 0 → xs ≡ []
    short [] h = refl
    short (x ∷ xs) h = absurd (omega arith)

not_less : (end : List ℕ) (m n : ℕ) → PathBefore false (end ++ m ∷ []) (end ++ n ∷ []) → m ≡ n → ⊥
not_less end m n h e = less (before_both false end (m ∷ []) (n ∷ []) h)
  where
    less : PathBefore false (m ∷ []) (n ∷ []) → ⊥
    less (inl k) = omega arith
    less (inr k) = k.1

pub within_piece : (q : List ℕ) (p : Piece) → AllGoOn q (piece_items p) → ItemsRise (piece_items p) → length q ≤ length (piece_path p)
within_piece q (piece.Entry e) g r = longer q e.path.items g.0
within_piece q (piece.Stub s) g r = longer q s.path.items g.0
within_piece q (piece.Siblings s) g r = omega (arith, not_past)
  where
    not_past : length s.end.items < length q → ⊥
    not_past h =
        let two = two_at_least s.nodes.items s.two in
        let end = s.end.items in
        let on = subst (λ ns. AllGoOn q (sibling_items end ns)) two.3 g in
        let rise = subst (λ ns. ItemsRise (sibling_items end ns)) two.3 r in
        let m = two.0.nibble in
        let n = two.1.nibble in
        let one : end ++ m ∷ [] ≡ q = nothing_more q (end ++ m ∷ []) on.0 (omega (arith, length-append end (m ∷ []))) in
        let other : end ++ n ∷ [] ≡ q = nothing_more q (end ++ n ∷ []) on.1.0 (omega (arith, length-append end (n ∷ []))) in
        not_less end m n rise.0.0 (same_end end m n (one ∙ sym other))

-- ---- what paths share that go on no further than these

no_length : (xs : List ℕ) → length xs ≤ 0 → xs ≡ []
no_length [] h = refl
no_length (x ∷ xs) h = absurd (omega arith)

by_test : (t : Bool) (m : ℕ) (xs ys : List ℕ) (j k : ℕ) → (length xs ≤ j → length xs ≤ k → xs ≡ ys) → length (cond t (m ∷ xs) []) ≤ suc j → length (cond t (m ∷ xs) []) ≤ suc k
    → cond t (m ∷ xs) [] ≡ cond t (m ∷ ys) []
by_test true m xs ys j k same g h = ap (λ (zs : List ℕ). m ∷ zs) (same (omega arith) (omega arith))
by_test false m xs ys j k same g h = refl

share_less : (a x b y : List ℕ) → length (common (a ++ x) (b ++ y)) ≤ length a → length (common (a ++ x) (b ++ y)) ≤ length b → common (a ++ x) (b ++ y) ≡ common a b
share_less [] x b y h k = no_length (common x (b ++ y)) h
share_less (m ∷ a) x [] y h k = no_length (common (m ∷ (a ++ x)) y) k
share_less (m ∷ a) x (n ∷ b) y h k =
    by_test (eqb m n) m (common (a ++ x) (b ++ y)) (common a b) (length a) (length b) (λ h k. share_less a x b y h k) h k

pub share_same : (at : ℕ) (a x b y : List ℕ) → at ≤ length a → at ≤ length b
    → at + length (common (drop at (a ++ x)) (drop at (b ++ y))) ≤ length a → at + length (common (drop at (a ++ x)) (drop at (b ++ y))) ≤ length b
    → common (drop at (a ++ x)) (drop at (b ++ y)) ≡ common (drop at a) (drop at b)
share_same at a x b y h k l m =
    let one : drop at (a ++ x) ≡ drop at a ++ x = drop-append-le at a x h in
    let two : drop at (b ++ y) ≡ drop at b ++ y = drop-append-le at b y k in
    let both : common (drop at (a ++ x)) (drop at (b ++ y)) ≡ common (drop at a ++ x) (drop at b ++ y) = ap₂ (λ (s t : List ℕ). common s t) one two in
    both ∙ share_less (drop at a) x (drop at b) y (omega (arith, ap length both, length-drop at a)) (omega (arith, ap length both, length-drop at b))
