-- Siblings beside a key stand to it as the first of them does.
use Rattle.std.proofs.Common.{◌≡◌, ℕ, List, [], ◌∷◌, ◌++◌, Some, ap, subst, sym, ◌∙◌, inl, inr}
use Rattle.std.specs.Ordering.{nat_cmp}
use Rattle.std.specs.Cmp.Lexicographic.{slice_cmp}
use Rattle.std.specs.List.{AllByRecursion, slice_get}
use Rattle.std.specs.declared.cmp.Ordering.{Ordering}
use Rattle.trie_change.specs.Frontier.{item_path}
use Rattle.trie_change.specs.Item.{Item}
use Rattle.trie_change.specs.declared.frontier.Sibling.{Sibling}
use Rattle.trie_change.specs.declared.frontier.Siblings.{Siblings}
use Rattle.trie_change.specs.declared.frontier.Piece.{Piece}
use Rattle.trie_change.specs.declared.frontier.Piece.TheVariants as piece
use Rattle.trie_change.specs.inner.Pieces.{IsBeside, IsBesideKey, piece_items, sibling_items}

-- items stand to a key as an ordering says
abbrev pub AllStand : List ℕ → Ordering → List Item → Type 0
AllStand key o items = AllByRecursion (λ (i : Item). slice_cmp nat_cmp (item_path i) key ≡ o) items

pub as_first : (key end : List ℕ) (s : Sibling) (nodes : List Sibling) (o : Ordering) → Some s ≡ slice_get nodes 0 → o ≡ slice_cmp nat_cmp (end ++ s.nibble ∷ []) key
    → IsBeside key (sibling_items end nodes) → AllStand key o (sibling_items end nodes)
as_first key end s [] o at is beside = tt
as_first key end s (n ∷ nodes) o at is beside =
    let here : o ≡ slice_cmp nat_cmp (end ++ n.nibble ∷ []) key =
    is ∙ ap (λ (x : Sibling). slice_cmp nat_cmp (end ++ x.nibble ∷ []) key) (one at) in
    elim beside [
      | inl above ↦ subst (λ (x : Ordering). AllStand key x (sibling_items end (n ∷ nodes))) (sym (here ∙ above.0)) above
      | inr below ↦ subst (λ (x : Ordering). AllStand key x (sibling_items end (n ∷ nodes))) (sym (here ∙ below.0)) below
    ]
  where
    one : Some s ≡ Some n → s ≡ n
    one e = cc

pub siblings_stand : (key : List ℕ) (p : Piece) (end : List ℕ) (s : Sibling) (group : Siblings) (o : Ordering) → p ≡ piece.Siblings group → end ≡ group.end.items
    → Some s ≡ slice_get group.nodes.items 0 → o ≡ slice_cmp nat_cmp (end ++ s.nibble ∷ []) key → IsBesideKey key p → AllStand key o (piece_items p)
siblings_stand key p end s group o is ends at stands =
    subst (λ (q : Piece). IsBesideKey key q → AllStand key o (piece_items q)) (sym is)
    (as_first key group.end.items s group.nodes.items o at (stands ∙ ap (λ (e : List ℕ). slice_cmp nat_cmp (e ++ s.nibble ∷ []) key) ends))
