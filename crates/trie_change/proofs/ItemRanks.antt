-- With what nibbles items go on after a path: none with more than the last of them.
use Rattle.std.proofs.Common.{◌≡◌, ℕ, suc, ◌<◌, ◌≤◌, List, [], ◌∷◌, ◌++◌, length, drop, subst, sym, inl, inr, arith}
use Rattle.std.specs.Prelude.{All}
use Rattle.std.specs.List.{AllByRecursion}
use Rattle.std.proofs.lemmas.List.Elements.{All-drop, recursion_from_All}
use Rattle.trie_read.proofs.OneFed.{all_split}
use Rattle.trie_change.specs.Frontier.{IsLimited, item_path}
use Rattle.trie_change.specs.Item.{Item}
use Rattle.trie_change.specs.Item as item
use Rattle.trie_change.specs.inner.Built.{GoesOnFrom, ItemBefore, ItemsRise, rank_after, rank_of}
use Rattle.trie_change.proofs.FedNodes.{ended}
use Rattle.trie_change.proofs.ItemPaths.{before_after, by_paths, is_key, rank_before}
use Rattle.trie_change.proofs.ItemSuffixes.{AllGoOn}

abbrev pub AtMostRank : ℕ → ℕ → List Item → Type 0
AtMostRank at most is = AllByRecursion (λ i. rank_after at i ≤ most) is

abbrev pub AboveRank : ℕ → ℕ → List Item → Type 0
AboveRank at least is = AllByRecursion (λ i. least < rank_after at i) is

rank_within : (at : ℕ) (ns : List ℕ) → All (λ n. n < 16) ns → rank_of (drop at ns) ≤ 16
rank_within at ns a = by_rest (drop at ns) (recursion_from_All (λ n. n < 16) (drop at ns) (All-drop (λ n. n < 16) at ns a))
  where
    by_rest : (ks : List ℕ) → AllByRecursion (λ n. n < 16) ks → rank_of ks ≤ 16
    by_rest [] h = omega arith
    by_rest (k ∷ ks) h = omega (arith, h.0)

pub rank_limited : (at : ℕ) (i : Item) → IsLimited i → rank_after at i ≤ 16
rank_limited at (item.Entry e) h = rank_within at e.path.items h.0.nibbles
rank_limited at (item.Stub s) h = rank_within at s.path.items h.nibbles

rank_rises : (q : List ℕ) (i j : Item) → GoesOnFrom q i → GoesOnFrom q j → ItemBefore i j → rank_after (length q) i ≤ rank_after (length q) j
rank_rises q i j g h k = rank_before (is_key i) _ _ (before_after (is_key i) q (item_path i) (item_path j) g h (by_paths i j k))

all_below_last : (q : List ℕ) (most : ℕ) (l : Item) (is : List Item) → AllGoOn q (is ++ l ∷ []) → ItemsRise (is ++ l ∷ []) → rank_after (length q) l ≤ most
    → AtMostRank (length q) most (is ++ l ∷ [])
all_below_last q most l [] g r h = (h, tt)
all_below_last q most l (i ∷ is) g r h =
    let last : GoesOnFrom q l = (all_split (GoesOnFrom q) is (l ∷ []) g.1).1.0 in
    let before : ItemBefore i l = (all_split (ItemBefore i) is (l ∷ []) r.0).1.0 in
    (omega (arith, rank_rises q i l g.0 last before, h), all_below_last q most l is g.1 r.1 h)

-- the last of the items in front doesn't go on with the nibble, and so none of them does
pub front_low : (q : List ℕ) (j : ℕ) (front : List Item) → AllGoOn q front → ItemsRise front → AtMostRank (length q) (suc j) front
    → ((l : Item) (is : List Item) → front ≡ is ++ l ∷ [] → rank_after (length q) l ≡ suc j → ⊥) → AtMostRank (length q) j front
front_low q j front g r a other = elim (ended front) [
  | inl none ↦ subst (AtMostRank (length q) j) (sym none) tt
  | inr l ↦
      let low : rank_after (length q) l.1 ≤ suc j = (all_split (λ i. rank_after (length q) i ≤ suc j) l.0 (l.1 ∷ []) (subst (AtMostRank (length q) (suc j)) l.2 a)).1.0 in
      subst (AtMostRank (length q) j) (sym l.2)
      (all_below_last q j l.1 l.0 (subst (AllGoOn q) l.2 g) (subst ItemsRise l.2 r) (least l.1 low (other l.1 l.0 l.2)))
]
  where
    least : (i : Item) → rank_after (length q) i ≤ suc j → (rank_after (length q) i ≡ suc j → ⊥) → rank_after (length q) i ≤ j
    least i h k = omega arith
