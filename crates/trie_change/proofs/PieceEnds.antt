-- The first and the last item of pieces are those of the first and the last piece.
use Rattle.std.proofs.Common.{◌≡◌, ℕ, ◌-◌, ◌≤◌, List, [], ◌∷◌, ◌++◌, length, reverse, refl, ap, sym, ◌∙◌, append_assoc, inl, inr, arith}
use Rattle.std.specs.List.{slice_get}
use Rattle.std.proofs.lemmas.List.{reverse-append}
use Rattle.trie_change.specs.Item.{Item}
use Rattle.trie_change.specs.inner.Pieces.{all_items, back_items, first_item, last_item, piece_items, sibling_items}
use Rattle.trie_change.specs.declared.frontier.Piece.{Piece}
use Rattle.trie_change.specs.declared.frontier.Piece.TheVariants as piece
use Rattle.trie_change.specs.declared.frontier.Sibling.{Sibling}
use Rattle.trie_change.proofs.HangingBetween.{ends_or_none, last_is}
use Rattle.trie_change.proofs.PieceLists.{all_more, back_more}

some_siblings : (end : List ℕ) (nodes : List Sibling) → 2 ≤ length nodes → sibling_items end nodes ≡ [] → ⊥
some_siblings end [] two e = absurd (omega arith)
some_siblings end (n ∷ nodes) two e = cc

pub some_in : (p : Piece) → piece_items p ≡ [] → ⊥
some_in (piece.Entry e) h = cc
some_in (piece.Stub s) h = cc
some_in (piece.Siblings s) h = some_siblings s.end.items s.nodes.items s.two h

pub last_of_pieces : (ps : List Piece) → slice_get (all_items ps) (length (all_items ps) - 1) ≡ last_item (slice_get ps (length ps - 1))
last_of_pieces ps = elim (ends_or_none ps) [
  | inl none ↦ ap (λ (qs : List Piece). slice_get (all_items qs) (length (all_items qs) - 1)) none ∙ sym (ap (λ (qs : List Piece). last_item (slice_get qs (length qs - 1))) none)
  | inr more ↦ elim (ends_or_none (piece_items more.1)) [
    | inl nothing ↦ absurd (some_in more.1 nothing)
    | inr some ↦
        last_is (all_items ps) (all_items more.0 ++ some.0) some.1
        (ap all_items more.2 ∙ all_more more.0 more.1 ∙ ap (λ (is : List Item). all_items more.0 ++ is) some.2 ∙ sym (append_assoc (all_items more.0) some.0 (some.1 ∷ [])))
        ∙ sym (ap last_item (last_is ps more.0 more.1 more.2) ∙ last_is (piece_items more.1) some.0 some.1 some.2)
  ]
]

first_by : (p : Piece) (is : List Item) → piece_items p ≡ is → (ps before : List Piece) → ps ≡ before ++ p ∷ []
    → slice_get (back_items ps) (length (back_items ps) - 1) ≡ slice_get (piece_items p) 0
first_by p [] e ps before f = absurd (some_in p e)
first_by p (i ∷ is) e ps before f =
    last_is (back_items ps) (back_items before ++ reverse is) i
    (ap back_items f ∙ back_more before p ∙ ap (λ (js : List Item). back_items before ++ reverse js) e ∙ ap (λ (js : List Item). back_items before ++ js) (reverse-append (i ∷ []) is)
    ∙ sym (append_assoc (back_items before) (reverse is) (i ∷ [])))
    ∙ sym (ap (λ (js : List Item). slice_get js 0) e)

pub first_of_later : (ps : List Piece) → slice_get (back_items ps) (length (back_items ps) - 1) ≡ first_item (slice_get ps (length ps - 1))
first_of_later ps = elim (ends_or_none ps) [
  | inl none ↦ ap (λ (qs : List Piece). slice_get (back_items qs) (length (back_items qs) - 1)) none ∙ sym (ap (λ (qs : List Piece). first_item (slice_get qs (length qs - 1))) none)
  | inr more ↦ first_by more.1 (piece_items more.1) refl ps more.0 more.2 ∙ sym (ap first_item (last_is ps more.0 more.1 more.2))
]
