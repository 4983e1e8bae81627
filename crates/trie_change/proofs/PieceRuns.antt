-- What is left of pieces and of siblings below one node, while the children come from the last nibble on.
use Rattle.std.proofs.Common.{◌≡◌, ℕ, ◌≤◌, List, [], ◌++◌, length, take, drop, Option, All, ap, subst, sym, ◌∙◌, take-append-drop, length-take, arith}
use Rattle.std.specs.Prelude.{IfSome, filter}
use Rattle.std.proofs.lemmas.List.{append-nil}
use Rattle.std.proofs.lemmas.List.Elements.{All-from_recursion}
use Rattle.trie_change.specs.Frontier.{IsLimited}
use Rattle.trie_change.specs.Item.{Item}
use Rattle.trie_change.specs.declared.diff.Diff.{Diff}
use Rattle.trie_change.specs.declared.frontier.Piece.{Piece}
use Rattle.trie_change.specs.declared.frontier.Sibling.{Sibling}
use Rattle.trie_change.specs.inner.Built.{IsShortValue, ItemBranch, is_made, nodes_below, values_below}
use Rattle.trie_change.specs.inner.Diffs.{AreShort, Comparison, IsComparison, after_nodes}
use Rattle.trie_change.specs.inner.Pieces.{all_items, sibling_items}
use Rattle.trie_change.proofs.ChildRuns.{Coming, all_come, none_come}
use Rattle.trie_change.proofs.PieceLimits.{limited_parts}

-- the children of so many nibbles, and what is left
pub record ComingTo {at : ℕ} {items : List Item} (b : ItemBranch at items) (c : Comparison) (count : ℕ) (rest : List Piece) (nodes : List Sibling) (children : List (Option (List ℕ))) (d : Diff) : Type 0 where
  pub end : List ℕ
  pub len : length end ≡ at
  pub coming : Coming b c count (all_items rest ++ sibling_items end nodes) children d

pub record AreComing (at : ℕ) (items : List Piece) (first : Diff) (count : ℕ) (rest : List Piece) (nodes : List Sibling) (children : List (Option (List ℕ))) (d : Diff) : Type 0 where
  pub short : AreShort d.puts.items
  pub so_many : length children ≡ count
  pub fits : All (λ child. IfSome child IsShortValue) children
  pub limited : All IsLimited (all_items rest)
  pub fewer : length rest ≤ length items
  pub coming : (b : ItemBranch at (all_items items)) (c : Comparison) → IsComparison first c → ComingTo b c count rest nodes children d

-- ---- at first, and what is left

pub none_are_coming : (at : ℕ) (items : List Piece) (d : Diff) (children : List (Option (List ℕ))) → children ≡ [] → AreShort d.puts.items → All IsLimited (all_items items)
    → AreComing at items d 0 items [] children d
none_are_coming at items d children none short limited = record {
  short = short;
  so_many = ap length none;
  fits = subst (λ (cs : List (Option (List ℕ))). All (λ child. IfSome child IsShortValue) cs) (sym none) (All-from_recursion (λ child. IfSome child IsShortValue) [] tt);
  limited = limited;
  fewer = omega arith;
  coming = λ b c is. record {
    end = b.group.path;
    len = b.group.place;
    coming = subst (λ (xs : List Item). Coming b c 0 xs children d) (sym (append-nil (all_items items)))
        (subst (λ (cs : List (Option (List ℕ))). Coming b c 0 (all_items items) cs d) (sym none) (none_come b c d limited is));
  };
}

module _ (at : ℕ) (items : List Piece) (first : Diff) (count : ℕ) (rest : List Piece) (nodes : List Sibling) (children : List (Option (List ℕ))) (d : Diff)
    (k : AreComing at items first count rest nodes children d) where
  pub are_left : (rest2 : List Piece) (nodes2 : List Sibling)
      → ((end : List ℕ) → length end ≡ at → (other : List ℕ) × (length other ≡ at) × (all_items rest ++ sibling_items end nodes ≡ all_items rest2 ++ sibling_items other nodes2))
      → rest2 ≡ take (length rest2) rest → AreComing at items first count rest2 nodes2 children d
  are_left rest2 nodes2 same front =
      record {
        short = k.short;
        so_many = k.so_many;
        fits = k.fits;
        limited =
            (limited_parts rest2 (drop (length rest2) rest) rest (ap (λ (ps : List Piece). ps ++ drop (length rest2) rest) front ∙ take-append-drop (length rest2) rest) k.limited).0;
        fewer = omega (arith, ap length front, length-take (length rest2) rest, k.fewer);
        coming = λ b c is.
            let so_far = k.coming b c is in
            let left = same so_far.end so_far.len in
            record { end = left.0; len = left.1; coming = subst (λ (xs : List Item). Coming b c count xs children d) left.2 so_far.coming };
      }

  pub are_here : (rest2 : List Piece) (nodes2 : List Sibling) (children2 : List (Option (List ℕ))) (e : Diff) → rest ≡ rest2 → nodes ≡ nodes2 → children ≡ children2 → d ≡ e
      → AreComing at items first count rest2 nodes2 children2 e
  are_here rest2 nodes2 children2 e same_rest same_nodes same_children same_diff =
      subst (λ (ps : List Piece). AreComing at items first count ps nodes2 children2 e) same_rest
      (subst (λ (ns : List Sibling). AreComing at items first count rest ns children2 e) same_nodes
      (subst (λ (cs : List (Option (List ℕ))). AreComing at items first count rest nodes cs e) same_children
      (subst (λ (f : Diff). AreComing at items first count rest nodes children f) same_diff k)))

-- ---- all of them

pub all_have_come : (at : ℕ) (items : List Piece) (first : Diff) (count : ℕ) (rest : List Piece) (nodes : List Sibling) (children : List (Option (List ℕ))) (d : Diff)
    → AreComing at items first count rest nodes children d → count ≡ 16 → (b : ItemBranch at (all_items items)) (c : Comparison) → IsComparison first c
    → (children ≡ values_below b.group.suffixes b.group.path) × IsComparison d (after_nodes c (filter (is_made b.group.under) (nodes_below b.group.suffixes b.group.path)))
all_have_come at items first count rest nodes children d k all b c is =
    let so_far = k.coming b c is in
    all_come b c count (all_items rest ++ sibling_items so_far.end nodes) children d all so_far.coming
