-- With what nibbles the items of a piece go on: all with the piece's, but for siblings that part just there.
use Rattle.std.proofs.Common.{◌≡◌, ◌⊎◌, ℕ, zero, suc, ◌+◌, ◌<◌, ◌≤◌, false, List, [], ◌∷◌, ◌++◌, length, get_or, drop, All, refl, ap, sym, ◌∙◌, inl, inr, length-append, arith}
use Rattle.std.specs.List.{AllByRecursion}
use Rattle.std.proofs.lemmas.Bool.{cases_lt}
use Rattle.std.proofs.lemmas.List.{map-append}
use Rattle.std.proofs.lemmas.List.Elements.{recursion_from_All}
use Rattle.trie_root.proofs.ShapesBytes.{all_joined}
use Rattle.trie_change.specs.Frontier.{item_path}
use Rattle.trie_change.specs.Item.{Item}
use Rattle.trie_change.specs.Item as item
use Rattle.trie_change.specs.declared.frontier.Piece.{Piece}
use Rattle.trie_change.specs.declared.frontier.Piece.TheVariants as piece
use Rattle.trie_change.specs.declared.frontier.Sibling.{Sibling}
use Rattle.trie_change.specs.inner.Built.{rank_after, rank_of}
use Rattle.trie_change.specs.inner.Pieces.{IsUncut, all_items, piece_items, piece_path, piece_rank, sibling_item, sibling_items}
use Rattle.trie_change.proofs.FedNodes.{ended}
use Rattle.trie_change.proofs.ItemPaths.{is_key}
use Rattle.trie_change.proofs.PieceItems.{last_there}

-- ---- ranks

pub rank_within : (at : ℕ) (ns : List ℕ) (j : ℕ) → rank_of (drop at ns) ≡ suc j → at < length ns
rank_within zero [] j e = absurd (omega (arith, e))
rank_within zero (n ∷ ns) j e = omega arith
rank_within (suc at) [] j e = absurd (omega (arith, e))
rank_within (suc at) (n ∷ ns) j e = omega (arith, rank_within at ns j e)

deeper_rank : (at : ℕ) (ns rest : List ℕ) → at < length ns → rank_of (drop at (ns ++ rest)) ≡ rank_of (drop at ns)
deeper_rank zero [] rest h = absurd (omega arith)
deeper_rank zero (n ∷ ns) rest h = refl
deeper_rank (suc at) [] rest h = absurd (omega arith)
deeper_rank (suc at) (n ∷ ns) rest h = deeper_rank at ns rest (omega arith)

pub end_rank : (end : List ℕ) (n : ℕ) → drop (length end) (end ++ n ∷ []) ≡ n ∷ []
end_rank [] n = refl
end_rank (x ∷ end) n = end_rank end n

pub sibling_rank : (at : ℕ) (end : List ℕ) (s : Sibling) → length end ≡ at → rank_after at (sibling_item end s) ≡ suc s.nibble
sibling_rank at end s e = ap (λ (n : ℕ). rank_of (drop n (end ++ s.nibble ∷ []))) (sym e) ∙ ap rank_of (end_rank end s.nibble)

siblings_ranked : (at : ℕ) (end : List ℕ) (ns : List Sibling) (j : ℕ) → rank_of (drop at end) ≡ suc j → AllByRecursion (λ i. rank_after at i ≡ suc j) (sibling_items end ns)
siblings_ranked at end [] j e = tt
siblings_ranked at end (s ∷ ns) j e = (deeper_rank at end (s.nibble ∷ []) (rank_within at end j e) ∙ e, siblings_ranked at end ns j e)

piece_ranked : (at : ℕ) (p : Piece) (j : ℕ) → piece_rank at p ≡ suc j → AllByRecursion (λ i. rank_after at i ≡ suc j) (piece_items p)
piece_ranked at (piece.Entry x) j e = (e, tt)
piece_ranked at (piece.Stub s) j e = (e, tt)
piece_ranked at (piece.Siblings s) j e = siblings_ranked at s.end.items s.nodes.items j e

all_ranked : (at : ℕ) (ps : List Piece) (j : ℕ) → AllByRecursion (λ p. piece_rank at p ≡ suc j) ps → AllByRecursion (λ i. rank_after at i ≡ suc j) (all_items ps)
all_ranked at [] j a = tt
all_ranked at (p ∷ ps) j a = all_joined (λ i. rank_after at i ≡ suc j) (piece_items p) (all_items ps) (piece_ranked at p j a.0) (all_ranked at ps j a.1)

pub items_ranked : (at : ℕ) (ps : List Piece) (j : ℕ) → All (λ p. piece_rank at p ≡ suc j) ps → AllByRecursion (λ i. rank_after at i ≡ suc j) (all_items ps)
items_ranked at ps j a = all_ranked at ps j (recursion_from_All (λ p. piece_rank at p ≡ suc j) ps a)

-- and they are long enough for the nibble
pub long_run : (at j : ℕ) (ps : List Piece) → All (λ p. piece_rank at p ≡ suc j) ps → All (λ p. at + 1 ≤ length (piece_path p)) ps
long_run at j ps a k d h = omega (arith, rank_within at (piece_path (get_or ps k d)) j (a k d h))

-- ---- the last item of a piece

pub same_last : (is ks xs : List Item) (l m : Item) → xs ≡ is ++ l ∷ [] → xs ≡ ks ++ m ∷ [] → l ≡ m
same_last is ks xs l m e f = sym (last_there is xs l l e) ∙ last_there ks xs m l f

-- siblings that part at a place, of which the last one goes on with a nibble
abbrev pub PartsAt : ℕ → Piece → Item → ℕ → Type 0
PartsAt at p l j = (IsUncut at p → ⊥) × (is_key l ≡ false) × (drop at (item_path l) ≡ j ∷ [])

last_sibling : (at : ℕ) (end : List ℕ) (s : Sibling) (j : ℕ) → rank_after at (sibling_item end s) ≡ suc j
    → (rank_of (drop at end) ≡ suc j) ⊎ ((length end ≡ at) × (drop at (end ++ s.nibble ∷ []) ≡ j ∷ []))
last_sibling at end s j r = elim (cases_lt at (length end)) [
  | inl less ↦ inl (sym (deeper_rank at end (s.nibble ∷ []) less) ∙ r)
  | inr more ↦
      let within : at < length (end ++ s.nibble ∷ []) = rank_within at (end ++ s.nibble ∷ []) j r in
      let here : length end ≡ at = omega (arith, length-append end (s.nibble ∷ [])) in
      let nibble : s.nibble ≡ j = omega (arith, sibling_rank at end s here, r) in
      inr (here, ap (λ (n : ℕ). drop n (end ++ s.nibble ∷ [])) (sym here) ∙ end_rank end s.nibble ∙ ap (λ (n : ℕ). n ∷ []) nibble)
]

-- it has the piece's rank, but of siblings that part here
pub last_rank : (at : ℕ) (p : Piece) (is : List Item) (l : Item) (j : ℕ) → piece_items p ≡ is ++ l ∷ [] → rank_after at l ≡ suc j → (piece_rank at p ≡ suc j) ⊎ PartsAt at p l j
last_rank at (piece.Entry x) is l j e r = inl (ap (rank_after at) (same_last [] is (item.Entry x ∷ []) (item.Entry x) l refl e) ∙ r)
last_rank at (piece.Stub s) is l j e r = inl (ap (rank_after at) (same_last [] is (item.Stub s ∷ []) (item.Stub s) l refl e) ∙ r)
last_rank at (piece.Siblings s) is l j e r = elim (ended s.nodes.items) [
  | inl none ↦ absurd (omega (arith, s.two, ap length none))
  | inr m ↦
      let end : List ℕ = s.end.items in
      let parts : sibling_items end s.nodes.items ≡ sibling_items end m.0 ++ sibling_item end m.1 ∷ [] =
      ap (sibling_items end) m.2 ∙ map-append (sibling_item end) m.0 (m.1 ∷ []) in
      let same : l ≡ sibling_item end m.1 = same_last is (sibling_items end m.0) (sibling_items end s.nodes.items) l (sibling_item end m.1) e parts in
      elim (last_sibling at end m.1 j (sym (ap (rank_after at) same) ∙ r)) [
        | inl deep ↦ inl deep
        | inr here ↦ inr (λ uncut. uncut here.0, ap is_key same, ap (λ (i : Item). drop at (item_path i)) same ∙ here.1)
      ]
]
