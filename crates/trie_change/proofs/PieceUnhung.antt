-- A piece is looked at: siblings hang, and a stub hangs where the items beside it say so.
use Rattle.std.proofs.Common.{◌≡◌, ℕ, ◌-◌, Bool, true, false, List, [], ◌∷◌, ◌++◌, length, reverse, Option, None, refl, ap, ap₂, subst, sym, ◌∙◌}
use Rattle.std.specs.Prelude.{All}
use Rattle.std.specs.FinMap.{entries}
use Rattle.std.specs.List.{AllByRecursion, slice_get}
use Rattle.trie_model.specs.State.{State}
use Rattle.trie_model.specs.Trie.{suffixes_of}
use Rattle.trie_root.specs.Suffixes.{IsEntry}
use Rattle.trie_read.specs.Paths.{Hangs}
use Rattle.trie_read.proofs.Binding.{sound_state}
use Rattle.trie_change.specs.Frontier.{IsFrontier, IsHanging}
use Rattle.trie_change.specs.Item.{Item}
use Rattle.trie_change.specs.Item as item
use Rattle.trie_change.specs.inner.InOrder.{hangs_between, in_place}
use Rattle.trie_change.specs.inner.Pieces.{all_items, back_items, first_item, last_item, piece_items}
use Rattle.trie_change.specs.declared.frontier.Piece.{Piece}
use Rattle.trie_change.specs.declared.frontier.Piece.TheVariants as piece
use Rattle.trie_change.specs.declared.frontier.Stub.{Stub}
use Rattle.trie_change.proofs.HangingBetween.{the_test}
use Rattle.trie_change.proofs.PieceEnds.{first_of_later, last_of_pieces}
use Rattle.trie_change.proofs.PieceMoves.{in_front}
use Rattle.trie_change.proofs.SiblingsHang.{siblings_hang}

module _ (m : State) (within : All IsEntry (entries m)) (whole : List Item) (found later less : List Piece) (p : Piece) (front : IsFrontier (suffixes_of m) whole)
    (same : in_place (all_items found) None (back_items later) ≡ whole) (split : later ≡ less ++ p ∷ []) where
  among : IsFrontier (suffixes_of m) (all_items found ++ (piece_items p ++ reverse (back_items less)))
  among = subst (IsFrontier (suffixes_of m)) (sym same ∙ sym (in_front found later less p split)) front

  -- all but a stub hang
  pub piece_hangs : ((s : Stub) → p ≡ piece.Stub s → ⊥) → AllByRecursion (IsHanging (suffixes_of m)) (piece_items p)
  piece_hangs other = by_kind p among other
    where
      by_kind : (q : Piece) → IsFrontier (suffixes_of m) (all_items found ++ (piece_items q ++ reverse (back_items less))) → ((s : Stub) → q ≡ piece.Stub s → ⊥)
          → AllByRecursion (IsHanging (suffixes_of m)) (piece_items q)
      by_kind (piece.Entry e) f other = (tt, tt)
      by_kind (piece.Stub s) f other = absurd (other s refl)
      by_kind (piece.Siblings s) f other = siblings_hang (suffixes_of m) (sound_state m within) s.end.items (all_items found) s.nodes.items (reverse (back_items less)) s.two f

  module _ (s : Stub) (is : p ≡ piece.Stub s) (x y : Option Piece) (path : List ℕ) (b : Bool) (answer : b ≡ hangs_between (last_item x) path (first_item y))
      (last : x ≡ slice_get found (length found - 1)) (next : y ≡ slice_get less (length less - 1)) (at : path ≡ s.path.items) where
    here : IsFrontier (suffixes_of m) (all_items found ++ (item.Stub s ∷ reverse (back_items less)))
    here = subst (λ (q : Piece). IsFrontier (suffixes_of m) (all_items found ++ (piece_items q ++ reverse (back_items less)))) is among

    test : hangs_between (slice_get (all_items found) (length (all_items found) - 1)) s.path.items (slice_get (back_items less) (length (back_items less) - 1)) ≡ b
    test =
        ap₂ (λ (o n : Option Item). hangs_between o s.path.items n) (last_of_pieces found ∙ ap last_item (sym last)) (first_of_later less ∙ ap first_item (sym next))
        ∙ ap (λ (r : List ℕ). hangs_between (last_item x) r (first_item y)) (sym at) ∙ sym answer

    pub hangs_here_too : b ≡ true → AllByRecursion (IsHanging (suffixes_of m)) (piece_items p)
    hangs_here_too e =
        subst (λ (q : Piece). AllByRecursion (IsHanging (suffixes_of m)) (piece_items q)) (sym is)
        ((the_test (suffixes_of m) (sound_state m within) (all_items found) (back_items less) s here).0 (test ∙ e), tt)

    pub no_node_there : b ≡ false → Hangs (suffixes_of m) s.path.items → ⊥
    no_node_there e = (the_test (suffixes_of m) (sound_state m within) (all_items found) (back_items less) s here).1 (test ∙ e)
