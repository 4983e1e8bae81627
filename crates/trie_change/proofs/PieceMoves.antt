-- The items of pieces, as a piece moves from those that are later to those that were found.
use Rattle.std.proofs.Common.{◌≡◌, List, [], ◌∷◌, ◌++◌, reverse, Some, None, refl, ap, subst, sym, ◌∙◌, append_assoc}
use Rattle.std.specs.List.{AllByRecursion}
use Rattle.std.proofs.lemmas.List.{reverse-append, reverse-reverse}
use Rattle.std.proofs.lemmas.List.Concat.{flat_map-append}
use Rattle.trie_root.proofs.ShapesBytes.{all_joined}
use Rattle.trie_read.proofs.OneFed.{all_split}
use Rattle.trie_change.specs.Item.{Item}
use Rattle.trie_change.specs.Item as item
use Rattle.trie_change.specs.inner.InOrder.{IsOff, in_place}
use Rattle.trie_change.specs.inner.Pieces.{IsAside, all_items, back_items, piece_items, sibling_items}
use Rattle.trie_change.specs.declared.settings.Setting.{Setting}
use Rattle.trie_change.specs.declared.frontier.Piece.{Piece}
use Rattle.trie_change.specs.declared.frontier.Piece.TheVariants as piece
use Rattle.trie_change.specs.declared.frontier.Stub.{Stub}
use Rattle.trie_change.proofs.PieceLists.{all_more, back_more}

-- what comes later, in its order
pub back_turned : (xs : List Piece) (p : Piece) → reverse (back_items (xs ++ p ∷ [])) ≡ piece_items p ++ reverse (back_items xs)
back_turned xs p =
    ap reverse (back_more xs p) ∙ reverse-append (back_items xs) (reverse (piece_items p))
    ∙ ap (λ (is : List Item). is ++ reverse (back_items xs)) (reverse-reverse (piece_items p))

pub in_front : (found later less : List Piece) (p : Piece) → later ≡ less ++ p ∷ []
    → all_items found ++ (piece_items p ++ reverse (back_items less)) ≡ in_place (all_items found) None (back_items later)
in_front found later less p e = ap (λ (is : List Item). all_items found ++ is) (sym (ap (λ (ps : List Piece). reverse (back_items ps)) e ∙ back_turned less p))

pub piece_moved : (found later less found2 : List Piece) (p : Piece) → later ≡ less ++ p ∷ [] → found2 ≡ found ++ p ∷ []
    → in_place (all_items found2) None (back_items less) ≡ in_place (all_items found) None (back_items later)
piece_moved found later less found2 p e f =
    ap (λ (ps : List Piece). all_items ps ++ reverse (back_items less)) f
    ∙ ap (λ (is : List Item). is ++ reverse (back_items less)) (all_more found p)
    ∙ append_assoc (all_items found) (piece_items p) (reverse (back_items less)) ∙ in_front found later less p e

pub stub_wanted : (found later less : List Piece) (p : Piece) (s : Stub) → later ≡ less ++ p ∷ [] → p ≡ piece.Stub s
    → in_place (all_items found) (Some s) (back_items less) ≡ in_place (all_items found) None (back_items later)
stub_wanted found later less p s e is = ap (λ (q : Piece). all_items found ++ (piece_items q ++ reverse (back_items less))) (sym is) ∙ in_front found later less p e

-- what holds of all pieces, as one more comes or the last one goes
pub one_more_holds : {X : Type 0} (P : X → Type 0) (xs : List X) (x : X) → AllByRecursion P xs → P x → AllByRecursion P (xs ++ x ∷ [])
one_more_holds P xs x a p = all_joined P xs (x ∷ []) a (p, tt)

pub all_less : {X : Type 0} (P : X → Type 0) (xs : List X) (x : X) → AllByRecursion P (xs ++ x ∷ []) → AllByRecursion P xs × P x
all_less P xs x a = let parts : AllByRecursion P xs × AllByRecursion P (x ∷ []) = all_split P xs (x ∷ []) a in (parts.0, parts.1.0)

-- a piece that is no stub is off the way, if it is apart from what is set
pub off_apart : (settings : List Setting) (p : Piece) → ((s : Stub) → p ≡ piece.Stub s → ⊥) → IsAside settings p → AllByRecursion (IsOff settings) (piece_items p)
off_apart settings (piece.Entry e) other a = (tt, tt)
off_apart settings (piece.Stub s) other a = absurd (other s refl)
off_apart settings (piece.Siblings s) other a = a.off

pub all_items_more : (P : Item → Type 0) (xs ys : List Piece) (p : Piece) → ys ≡ xs ++ p ∷ [] → AllByRecursion P (all_items xs) → AllByRecursion P (piece_items p)
    → AllByRecursion P (all_items ys)
all_items_more P xs ys p e a b = subst (AllByRecursion P) (sym (ap all_items e ∙ all_more xs p)) (all_joined P (all_items xs) (piece_items p) a b)

-- pieces come back to those that are later
pub later_are : (later old both pieces : List Piece) → later ≡ old → both ≡ later ++ reverse pieces → back_items both ≡ back_items old ++ reverse (all_items pieces)
later_are later old both pieces e f =
    ap back_items (f ∙ ap (λ (ps : List Piece). ps ++ reverse pieces) e) ∙ ap (λ (ps : List Piece). reverse (all_items ps)) (reverse-append old (reverse pieces))
    ∙ ap (λ (ps : List Piece). reverse (all_items (ps ++ reverse old))) (reverse-reverse pieces)
    ∙ ap reverse (flat_map-append piece_items pieces (reverse old)) ∙ reverse-append (all_items pieces) (all_items (reverse old))

-- where nothing is set all pieces are apart from it
pub apart_of_none : (ps : List Piece) → AllByRecursion (IsAside []) ps
apart_of_none [] = tt
apart_of_none (piece.Entry e ∷ ps) = (tt, apart_of_none ps)
apart_of_none (piece.Stub s ∷ ps) = (tt, apart_of_none ps)
apart_of_none (piece.Siblings s ∷ ps) = (record { off = all_off (sibling_items s.end.items s.nodes.items); beside = tt }, apart_of_none ps)
  where
    all_off : (items : List Item) → AllByRecursion (IsOff []) items
    all_off [] = tt
    all_off (item.Entry e ∷ items) = (tt, all_off items)
    all_off (item.Stub s ∷ items) = (refl, all_off items)
