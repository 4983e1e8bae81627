-- The items of lists of pieces that are joined, or have one piece more.
use Rattle.std.proofs.Common.{◌≡◌, List, [], ◌∷◌, ◌++◌, reverse, ap, ◌∙◌}
use Rattle.std.proofs.lemmas.List.{append-nil, reverse-append, reverse-reverse}
use Rattle.std.proofs.lemmas.List.Concat.{flat_map-append}
use Rattle.trie_change.specs.Item.{Item}
use Rattle.trie_change.specs.declared.frontier.Piece.{Piece}
use Rattle.trie_change.specs.inner.Pieces.{all_items, back_items, piece_items}

pub all_joined : (front back : List Piece) → all_items (front ++ back) ≡ all_items front ++ all_items back
all_joined front back = flat_map-append piece_items front back

-- the items of one piece
pub all_of_one : (p : Piece) → all_items (p ∷ []) ≡ piece_items p
all_of_one p = append-nil (piece_items p)

-- one piece more at the end
pub all_more : (found : List Piece) (p : Piece) → all_items (found ++ p ∷ []) ≡ all_items found ++ piece_items p
all_more found p = all_joined found (p ∷ []) ∙ ap (λ (is : List Item). all_items found ++ is) (all_of_one p)

-- the items of all pieces, the last first, where the last of two parts stands first
pub back_joined : (later more : List Piece) → back_items (later ++ more) ≡ back_items later ++ back_items more
back_joined later more =
    ap (λ (ps : List Piece). reverse (all_items ps)) (reverse-append later more)
    ∙ ap reverse (all_joined (reverse more) (reverse later))
    ∙ reverse-append (all_items (reverse more)) (all_items (reverse later))

-- one piece more that comes before all of them
pub back_more : (later : List Piece) (p : Piece) → back_items (later ++ p ∷ []) ≡ back_items later ++ reverse (piece_items p)
back_more later p = back_joined later (p ∷ []) ∙ ap (λ (is : List Item). back_items later ++ reverse is) (all_of_one p)

-- pieces that are turned round
pub back_reversed : (found : List Piece) → back_items (reverse found) ≡ reverse (all_items found)
back_reversed found = ap (λ (ps : List Piece). reverse (all_items ps)) (reverse-reverse found)

pub all_reversed_back : (later : List Piece) → reverse (back_items later) ≡ all_items (reverse later)
all_reversed_back later = reverse-reverse (all_items (reverse later))
