-- The limits of pieces, which their items keep.
use Rattle.std.proofs.Common.{◌≡◌, ℕ, ◌<◌, ◌≤◌, List, [], ◌∷◌, ◌++◌, length, get_or, ap, subst, sym, ◌∙◌, length-append, arith}
use Rattle.std.specs.Prelude.{All, IfSome}
use Rattle.std.specs.List.{AllByRecursion}
use Rattle.std.proofs.lemmas.List.Concat.{flat_map-append}
use Rattle.std.proofs.lemmas.List.Elements.{All-from_recursion, recursion_from_All}
use Rattle.trie_model.specs.Limits.{most_in_value}
use Rattle.trie_model.specs.Node.{IsPartial}
use Rattle.trie_read.proofs.OneFed.{all_split}
use Rattle.trie_change.specs.Frontier.{IsLimited, item_path}
use Rattle.trie_change.specs.Item.{Item}
use Rattle.trie_change.specs.Item as item
use Rattle.trie_change.specs.declared.frontier.Piece.{Piece}
use Rattle.trie_change.specs.inner.Pieces.{all_items, piece_items, piece_path, piece_value}
use Rattle.trie_change.proofs.SpellingLength.{short_value_after}
use Rattle.trie_change.proofs.PieceItems.{first_in}

partial_before : (ns rest : List ℕ) → IsPartial (ns ++ rest) → IsPartial ns
partial_before ns rest h = record {
  nibbles = All-from_recursion (λ n. n < 16) ns (all_split (λ n. n < 16) ns rest (recursion_from_All (λ n. n < 16) (ns ++ rest) h.nibbles)).0;
  short = omega (arith, h.short, length-append ns rest);
}

limited_item : (i : Item) → IsLimited i → IsPartial (item_path i)
limited_item (item.Entry e) h = h.0
limited_item (item.Stub s) h = h

limited_first : (p : Piece) → AllByRecursion IsLimited (piece_items p) → IsLimited (first_in p).first
limited_first p a = (subst (λ (is : List Item). AllByRecursion IsLimited is) (first_in p).is a).0

pub limited_path : (p : Piece) → AllByRecursion IsLimited (piece_items p) → IsPartial (piece_path p)
limited_path p a =
    let f = first_in p in
    partial_before (piece_path p) f.place.0 (subst IsPartial f.place.1 (limited_item f.first (limited_first p a)))

pub limited_value : (end : ℕ) (p : Piece) → AllByRecursion IsLimited (piece_items p) → IfSome (piece_value end p) (λ value. length value ≤ most_in_value)
limited_value end p a =
    let f = first_in p in
    subst (λ o. IfSome o (λ value. length value ≤ most_in_value)) (f.value end) (short_value_after end f.first (limited_first p a))

pub limited_head : (pieces : List Piece) (p : Piece) → 1 ≤ length pieces → p ≡ get_or pieces 0 p → All IsLimited (all_items pieces) → AllByRecursion IsLimited (piece_items p)
limited_head [] p h e a = absurd (omega arith)
limited_head (q ∷ ps) p h e a =
    subst (λ (r : Piece). AllByRecursion IsLimited (piece_items r)) (sym e)
    (all_split IsLimited (piece_items q) (all_items ps) (recursion_from_All IsLimited (piece_items q ++ all_items ps) a)).0

-- a front of limited pieces and what is left of them
pub limited_parts : (front back pieces : List Piece) → front ++ back ≡ pieces → All IsLimited (all_items pieces) → All IsLimited (all_items front) × All IsLimited (all_items back)
limited_parts front back pieces e a =
    let whole : all_items pieces ≡ all_items front ++ all_items back = ap (λ (ps : List Piece). all_items ps) (sym e) ∙ flat_map-append piece_items front back in
    let both = all_split IsLimited (all_items front) (all_items back)
    (subst (λ (is : List Item). AllByRecursion IsLimited is) whole (recursion_from_All IsLimited (all_items pieces) a)) in
    (All-from_recursion IsLimited (all_items front) both.0, All-from_recursion IsLimited (all_items back) both.1)
