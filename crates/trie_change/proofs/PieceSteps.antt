-- One more child comes: a sibling's hash, none, or that of the pieces that go on with the nibble.
use Rattle.std.proofs.Common.{◌≡◌, ℕ, suc, ◌+◌, ◌-◌, ◌<◌, ◌≤◌, List, [], ◌∷◌, ◌++◌, length, get_or, take, drop, Option, All, Some, None, refl, ap, subst, sym, ◌∙◌, append_assoc, take-append-drop, length-append, length-take, length-take-le, arith}
use Rattle.std.specs.Prelude.{IfSome}
use Rattle.std.proofs.lemmas.List.{append-nil, map-append}
use Rattle.std.proofs.lemmas.List.Concat.{flat_map-append}
use Rattle.std.proofs.lemmas.List.Elements.{All-from_recursion, recursion_from_All}
use Rattle.trie_change.specs.Item.{Item}
use Rattle.trie_change.specs.declared.diff.Diff.{Diff}
use Rattle.trie_change.specs.declared.frontier.Piece.{Piece}
use Rattle.trie_change.specs.declared.frontier.Sibling.{Sibling}
use Rattle.trie_change.specs.inner.Built.{IsShortValue, rank_after}
use Rattle.trie_change.specs.inner.Diffs.{AreShort}
use Rattle.trie_change.specs.inner.Pieces.{IsUncut, all_items, piece_items, piece_rank, sibling_item, sibling_items}
use Rattle.trie_change.proofs.ChildRuns.{Coming}
use Rattle.trie_change.proofs.PieceLimits.{limited_parts}
use Rattle.trie_change.proofs.PieceFronts.{before_sibling, last_uncut}
use Rattle.trie_change.proofs.PieceRanks.{items_ranked, same_last, sibling_rank}
use Rattle.trie_change.proofs.RunsOfItems.{IsPushed, comes_with, nothing_there, sibling_there}
use Rattle.trie_change.proofs.PieceRuns.{AreComing}

module _ (at : ℕ) (items : List Piece) (first : Diff) (count : ℕ) (rest : List Piece) (nodes : List Sibling) (children : List (Option (List ℕ))) (d : Diff)
    (k : AreComing at items first count rest nodes children d) where
  one_more_fits : (more : List (Option (List ℕ))) (child : Option (List ℕ)) → more ≡ child ∷ children → IfSome child IsShortValue → All (λ child. IfSome child IsShortValue) more
  one_more_fits more child e h =
      subst (λ (cs : List (Option (List ℕ))). All (λ child. IfSome child IsShortValue) cs) (sym e)
      (All-from_recursion (λ child. IfSome child IsShortValue) (child ∷ children)
      (h, recursion_from_All (λ child. IfSome child IsShortValue) children k.fits))

  one_more_long : (more : List (Option (List ℕ))) (child : Option (List ℕ)) → more ≡ child ∷ children → length more ≡ count + 1
  one_more_long more child e = omega (arith, ap length e, k.so_many)

  -- a sibling's hash
  pub hash_comes : (others : List Sibling) (last : Sibling) (more : List (Option (List ℕ))) → count < 16 → nodes ≡ others ++ last ∷ [] → last.nibble ≡ 15 - count
      → length last.hash.0 ≤ 32 → more ≡ Some last.hash.0 ∷ children → AreComing at items first (count + 1) rest others more d
  hash_comes others last more small parts nibble fits pushed = record {
    short = k.short;
    so_many = one_more_long more (Some last.hash.0) pushed;
    fits = one_more_fits more (Some last.hash.0) pushed fits;
    limited = k.limited;
    fewer = k.fewer;
    coming = λ b c is.
        let so_far = k.coming b c is in
        let end : List ℕ = so_far.end in
        let front : List Item = all_items rest ++ sibling_items end others in
        let left : all_items rest ++ sibling_items end nodes ≡ front ++ sibling_item end last ∷ [] =
        ap (λ (ns : List Sibling). all_items rest ++ sibling_items end ns) parts ∙ ap (λ (xs : List Item). all_items rest ++ xs) (map-append (sibling_item end) others (last ∷ []))
        ∙ sym (append_assoc (all_items rest) (sibling_items end others) (sibling_item end last ∷ [])) in
        let here : Coming b c count (front ++ sibling_item end last ∷ []) children d = subst (λ (xs : List Item). Coming b c count xs children d) left so_far.coming in
        record {
          end = end;
          len = so_far.len;
          coming = comes_with b c count front (sibling_item end last ∷ []) children more d d here small (sibling_rank at end last so_far.len ∙ ap suc nibble, tt)
              (before_sibling b c count front end last children d here so_far.len (15 - count) nibble)
              (sibling_there at end last children more d so_far.len pushed);
        };
  }

  -- none, where the last sibling left has another nibble
  pub none_comes : (others : List Sibling) (last : Sibling) (more : List (Option (List ℕ))) → count < 16 → nodes ≡ others ++ last ∷ [] → (last.nibble ≡ 15 - count → ⊥)
      → more ≡ None ∷ children → AreComing at items first (count + 1) rest nodes more d
  none_comes others last more small parts nibble pushed = record {
    short = k.short;
    so_many = one_more_long more None pushed;
    fits = one_more_fits more None pushed tt;
    limited = k.limited;
    fewer = k.fewer;
    coming = λ b c is.
        let so_far = k.coming b c is in
        let end : List ℕ = so_far.end in
        let left : List Item = all_items rest ++ sibling_items end nodes in
        let ends : left ≡ (all_items rest ++ sibling_items end others) ++ sibling_item end last ∷ [] =
        ap (λ (ns : List Sibling). all_items rest ++ sibling_items end ns) parts ∙ ap (λ (xs : List Item). all_items rest ++ xs) (map-append (sibling_item end) others (last ∷ []))
        ∙ sym (append_assoc (all_items rest) (sibling_items end others) (sibling_item end last ∷ [])) in
        record {
          end = end;
          len = so_far.len;
          coming = comes_with b c count left [] children more d d (subst (λ (xs : List Item). Coming b c count xs children d) (sym (append-nil left)) so_far.coming) small tt
              (λ l is whole r. nibble (omega (arith, sibling_rank at end last so_far.len, ap (rank_after at) (same_last is (all_items rest ++ sibling_items end others) left l (sibling_item end last) whole ends), r)))
              (nothing_there (at + 1) children more d pushed);
        };
  }

  -- the child of the pieces that go on with the nibble, where no sibling is left
  pub child_comes : (start : ℕ) (more : List (Option (List ℕ))) (e : Diff) → count < 16 → nodes ≡ [] → start ≤ length rest
      → All (λ p. piece_rank at p ≡ suc (15 - count)) (drop start rest)
      → ((x : Piece) → 0 < start → piece_rank at (get_or rest (start - 1) x) ≡ suc (15 - count) → ⊥)
      → ((p : Piece) (before : List Piece) → rest ≡ before ++ p ∷ [] → IsUncut at p)
      → AreShort e.puts.items → length more ≡ length children + 1 → All (λ child. IfSome child IsShortValue) more
      → IsPushed (at + 1) (all_items (drop start rest)) children more d e → AreComing at items first (count + 1) (take start rest) nodes more e
  child_comes start more e small none fits run other uncut short long fit pushed =
      let front : List Piece = take start rest in
      let back : List Piece = drop start rest in
      record {
        short = short;
        so_many = omega (arith, long, k.so_many);
        fits = fit;
        limited = (limited_parts front back rest (take-append-drop start rest) k.limited).0;
        fewer = omega (arith, length-take start rest, k.fewer);
        coming = λ b c is.
            let so_far = k.coming b c is in
            let end : List ℕ = so_far.end in
            let no_siblings : (xs : List Item) → xs ++ sibling_items end nodes ≡ xs = λ xs. ap (λ (ns : List Sibling). xs ++ sibling_items end ns) none ∙ append-nil xs in
            let left : all_items rest ++ sibling_items end nodes ≡ all_items front ++ all_items back =
            no_siblings (all_items rest) ∙ ap (λ (ps : List Piece). all_items ps) (sym (take-append-drop start rest)) ∙ flat_map-append piece_items front back in
            let here : Coming b c count (all_items front ++ all_items back) children d = subst (λ (xs : List Item). Coming b c count xs children d) left so_far.coming in
            let ranks = items_ranked at back (15 - count) run in
            record {
              end = end;
              len = so_far.len;
              coming = subst (λ (xs : List Item). Coming b c (count + 1) xs more e) (sym (no_siblings (all_items front)))
                  (comes_with b c count (all_items front) (all_items back) children more d e here small ranks
                  (last_uncut b c count front back children d here (15 - count) ranks
                  (λ before p whole r. last_other start fits other before p whole r)
                  (λ before p whole nothing. uncut p before
                  (sym (take-append-drop start rest) ∙ ap (λ (ps : List Piece). front ++ ps) nothing ∙ append-nil front ∙ whole)))
                  pushed);
            };
      }
    where
      piece_there : (before : List Piece) (p : Piece) (others : List Piece) → get_or ((before ++ p ∷ []) ++ others) (length before) p ≡ p
      piece_there [] p others = refl
      piece_there (x ∷ before) p others = piece_there before p others

      last_other : (start : ℕ) → start ≤ length rest → ((x : Piece) → 0 < start → piece_rank at (get_or rest (start - 1) x) ≡ suc (15 - count) → ⊥)
          → (before : List Piece) (p : Piece) → take start rest ≡ before ++ p ∷ [] → piece_rank at p ≡ suc (15 - count) → ⊥
      last_other start fits other before p whole r =
          let long : length before + 1 ≡ start = sym (length-append before (p ∷ [])) ∙ ap length (sym whole) ∙ length-take-le start rest fits in
          let place : start - 1 ≡ length before = omega (arith, long) in
          let here : get_or rest (start - 1) p ≡ p =
          ap (λ (n : ℕ). get_or rest n p) place
          ∙ ap (λ (ps : List Piece). get_or ps (length before) p) (sym (take-append-drop start rest) ∙ ap (λ (ps : List Piece). ps ++ drop start rest) whole)
          ∙ piece_there before p (drop start rest) in
          other p (omega (arith, long)) (ap (piece_rank at) here ∙ r)
