-- No item in front of those that go on with a nibble goes on with it, where the last piece there doesn't.
use Rattle.std.proofs.Common.{◌≡◌, ℕ, suc, Bool, false, List, [], ◌∷◌, ◌++◌, length, drop, Option, refl, ap, subst, sym, ◌∙◌, inl, inr, append_assoc, length-append, arith}
use Rattle.std.specs.List.{AllByRecursion}
use Rattle.trie_read.proofs.OneFed.{all_split}
use Rattle.trie_change.specs.Frontier.{item_path}
use Rattle.trie_change.specs.Item.{Item}
use Rattle.trie_change.specs.declared.diff.Diff.{Diff}
use Rattle.trie_change.specs.declared.frontier.Piece.{Piece}
use Rattle.trie_change.specs.declared.frontier.Sibling.{Sibling}
use Rattle.trie_change.specs.inner.Built.{GoesOnFrom, ItemBranch, ItemsRise, PathBefore, rank_after, rank_of}
use Rattle.trie_change.specs.inner.Diffs.{Comparison}
use Rattle.trie_change.specs.inner.Pieces.{IsUncut, all_items, piece_rank, sibling_item}
use Rattle.trie_change.proofs.ChildRuns.{Coming}
use Rattle.trie_change.proofs.FedNodes.{ended}
use Rattle.trie_change.proofs.ItemPaths.{before_after, by_paths, is_key, rise_joined, second_goes_on, stub_goes_on}
use Rattle.trie_change.proofs.PieceItems.{first_in, first_of_all, last_in, last_of_all}
use Rattle.trie_change.proofs.PieceRanks.{PartsAt, end_rank, last_rank, same_last}

-- ---- one item before another, of which one ends with the nibble

pub before_here : {at : ℕ} {items : List Item} (b : ItemBranch at items) (left back is more : List Item) (l x : Item) → items ≡ left ++ back → left ≡ is ++ (l ∷ (x ∷ more))
    → PathBefore (is_key l) (drop at (item_path l)) (drop at (item_path x))
before_here b left back is more l x parts e =
    let q : List ℕ = b.group.path in
    let rises = (rise_joined is (l ∷ (x ∷ more)) (subst ItemsRise e (rise_joined left back (subst ItemsRise parts b.rises)).0)).1 in
    let on = (all_split (GoesOnFrom q) is (l ∷ (x ∷ more))
    (subst (λ (xs : List Item). AllByRecursion (GoesOnFrom q) xs) e
    (all_split (GoesOnFrom q) left back (subst (λ (xs : List Item). AllByRecursion (GoesOnFrom q) xs) parts b.group.goes_on)).0)).1 in
    subst (λ (n : ℕ). PathBefore (is_key l) (drop n (item_path l)) (drop n (item_path x))) b.group.place
    (before_after (is_key l) q (item_path l) (item_path x) on.0 on.1.0 (by_paths l x rises.0.0))

none_before_end : (t : Bool) (ns : List ℕ) (j : ℕ) → PathBefore t ns (j ∷ []) → rank_of ns ≡ suc j → ⊥
none_before_end t [] j h e = absurd (omega (arith, e))
none_before_end t (n ∷ ns) j (inl h) e = absurd (omega (arith, e))
none_before_end t (n ∷ ns) j (inr h) e = second_goes_on t ns [] h.1 refl

none_after_stub : (ns : List ℕ) (j : ℕ) → PathBefore false (j ∷ []) ns → rank_of ns ≡ suc j → ⊥
none_after_stub [] j h e = absurd (omega (arith, e))
none_after_stub (n ∷ ns) j (inl h) e = absurd (omega (arith, e))
none_after_stub (n ∷ ns) j (inr h) e = stub_goes_on [] ns h.1 refl

-- no item before a sibling goes on with its nibble
pub before_sibling : {at : ℕ} {items : List Item} (b : ItemBranch at items) (c : Comparison) (count : ℕ) (front : List Item) (end : List ℕ) (s : Sibling) (children : List (Option (List ℕ))) (d : Diff)
    → Coming b c count (front ++ sibling_item end s ∷ []) children d → length end ≡ at → (j : ℕ) → s.nibble ≡ j
    → (l : Item) (is : List Item) → front ≡ is ++ l ∷ [] → rank_after at l ≡ suc j → ⊥
before_sibling {at = at} b c count front end s children d k len j nibble l is e r =
    let x : Item = sibling_item end s in
    let left : front ++ x ∷ [] ≡ is ++ (l ∷ (x ∷ [])) = ap (λ (xs : List Item). xs ++ x ∷ []) e ∙ append_assoc is (l ∷ []) (x ∷ []) in
    let path : drop at (item_path x) ≡ j ∷ [] = ap (λ (n : ℕ). drop n (end ++ s.nibble ∷ [])) (sym len) ∙ end_rank end s.nibble ∙ ap (λ (n : ℕ). n ∷ []) nibble in
    none_before_end (is_key l) (drop at (item_path l)) j
    (subst (λ (ns : List ℕ). PathBefore (is_key l) (drop at (item_path l)) ns) path (before_here b (front ++ x ∷ []) k.back is [] l x k.parts left)) r

-- ---- the pieces in front of a run

module _ {at : ℕ} {items : List Item} (b : ItemBranch at items) (c : Comparison) (count : ℕ) (front run : List Piece) (children : List (Option (List ℕ))) (d : Diff)
    (k : Coming b c count (all_items front ++ all_items run) children d) (j : ℕ) (ranks : AllByRecursion (λ i. rank_after at i ≡ suc j) (all_items run)) where
  parts_run : (before : List Piece) (p : Piece) (l : Item) (is : List Item) → front ≡ before ++ p ∷ [] → all_items front ≡ is ++ l ∷ []
      → (run ≡ [] → IsUncut at p) → PartsAt at p l j → ⊥
  parts_run before p l is e whole uncut parts = by_run run refl
    where
      by_run : (ps : List Piece) → run ≡ ps → ⊥
      by_run [] none = parts.0 (uncut none)
      by_run (y ∷ ys) more =
          let x : Item = (first_in y).first in
          let first = first_of_all y ys in
          let run_is : all_items run ≡ x ∷ first.0 = ap (λ (ps : List Piece). all_items ps) more ∙ first.1 in
          let left : all_items front ++ all_items run ≡ is ++ (l ∷ (x ∷ first.0)) =
          ap (λ (xs : List Item). xs ++ all_items run) whole ∙ ap (λ (xs : List Item). (is ++ l ∷ []) ++ xs) run_is ∙ append_assoc is (l ∷ []) (x ∷ first.0) in
          let order = before_here b (all_items front ++ all_items run) k.back is first.0 l x k.parts left in
          none_after_stub (drop at (item_path x)) j
          (subst (λ (ns : List ℕ). PathBefore false ns (drop at (item_path x))) parts.2
          (subst (λ (t : Bool). PathBefore t (drop at (item_path l)) (drop at (item_path x))) parts.1 order))
          (subst (λ (xs : List Item). AllByRecursion (λ i. rank_after at i ≡ suc j) xs) run_is ranks).0

  -- the last of them goes on with another nibble
  pub last_uncut : ((before : List Piece) (p : Piece) → front ≡ before ++ p ∷ [] → piece_rank at p ≡ suc j → ⊥)
      → ((before : List Piece) (p : Piece) → front ≡ before ++ p ∷ [] → run ≡ [] → IsUncut at p)
      → (l : Item) (is : List Item) → all_items front ≡ is ++ l ∷ [] → rank_after at l ≡ suc j → ⊥
  last_uncut other uncut l is whole r = elim (ended front) [
    | inl none ↦ absurd (omega (arith, ap length whole, ap (λ (ps : List Piece). length (all_items ps)) none, length-append is (l ∷ [])))
    | inr p ↦
        let last = last_in p.1 in
        let all = last_of_all p.0 p.1 in
        let same : l ≡ last.last = same_last is all.0 (all_items front) l last.last whole (ap (λ (ps : List Piece). all_items ps) p.2 ∙ all.1) in
        elim (last_rank at p.1 last.before last.last j last.is (sym (ap (rank_after at) same) ∙ r)) [
          | inl rank ↦ other p.0 p.1 p.2 rank
          | inr parts ↦ parts_run p.0 p.1 last.last is p.2 (whole ∙ ap (λ (i : Item). is ++ i ∷ []) same) (uncut p.0 p.1 p.2) parts
        ]
  ]
