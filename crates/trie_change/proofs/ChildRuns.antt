-- The items that go on with each nibble, from the last nibble on.
use Rattle.std.proofs.Common.{◌≡◌, ℕ, suc, ◌+◌, ◌-◌, ◌<◌, ◌≤◌, List, [], ◌∷◌, ◌++◌, length, get_or, map, take, drop, Option, refl, ap, ap₂, subst, sym, ◌∙◌, append_assoc, take-append-drop, length-append, length-take-le, arith}
use Rattle.std.specs.Prelude.{All, filter}
use Rattle.std.specs.List.{AllByRecursion, flat_map}
use Rattle.std.proofs.lemmas.List.{append-nil}
use Rattle.std.proofs.lemmas.List.Elements.{filter-append, recursion_from_All}
use Rattle.trie_model.specs.Nodes.{PathNode}
use Rattle.trie_model.specs.Trie.{below, child_value, node_of_all}
use Rattle.trie_root.proofs.ReadOffNibbles.{from}
use Rattle.trie_root.proofs.ShapesBytes.{all_joined}
use Rattle.trie_read.proofs.OneFed.{all_split}
use Rattle.trie_read.proofs.Rising.{all_weaker}
use Rattle.trie_change.specs.Frontier.{IsLimited}
use Rattle.trie_change.specs.declared.diff.Diff.{Diff}
use Rattle.trie_change.specs.Item.{Item}
use Rattle.trie_change.specs.inner.Built.{GoesOnFrom, ItemBranch, ItemGroup, ItemsRise, is_made, nodes_at, nodes_below, rank_after, values_below}
use Rattle.trie_change.specs.inner.Diffs.{Comparison, IsComparison, after_node, after_nodes}
use Rattle.trie_change.proofs.ChildGroups.{Run, group_of_run}
use Rattle.trie_change.proofs.ItemPaths.{rise_joined}
use Rattle.trie_change.proofs.ItemRanks.{AboveRank, AtMostRank, front_low, rank_limited}

abbrev pub child_at_nibble : {at : ℕ} {items : List Item} → ItemBranch at items → ℕ → Option (List ℕ)
child_at_nibble b n = child_value node_of_all (below (b.group.path ++ n ∷ []) b.group.suffixes)

abbrev pub nodes_at_nibble : {at : ℕ} {items : List Item} → ItemBranch at items → ℕ → List PathNode
nodes_at_nibble b n = nodes_at b.group.suffixes (b.group.path ++ n ∷ [])

-- what is left once the children of so many nibbles are made, and these
pub record Coming {at : ℕ} {items : List Item} (b : ItemBranch at items) (c : Comparison) (count : ℕ) (rest : List Item) (children : List (Option (List ℕ))) (d : Diff) : Type 0 where
  pub back : List Item
  pub parts : items ≡ rest ++ back
  pub low : AtMostRank at (16 - count) rest
  pub high : AboveRank at (16 - count) back
  pub values : children ≡ map (child_at_nibble b) (from (16 - count) count)
  pub come : IsComparison d (after_nodes c (filter (is_made b.group.under) (flat_map (nodes_at_nibble b) (from (16 - count) count))))

-- ---- at first

pub none_come : {at : ℕ} {items : List Item} (b : ItemBranch at items) (c : Comparison) (d : Diff) → All IsLimited items → IsComparison d c → Coming b c 0 items [] d
none_come {at = at} {items = items} b c d limited k = record {
  back = [];
  parts = sym (append-nil items);
  low = all_weaker IsLimited (λ i. rank_after at i ≤ 16) (rank_limited at) items (recursion_from_All IsLimited items limited);
  high = tt;
  values = refl;
  come = k;
}

-- ---- one more

after_joined : (c : Comparison) (xs ys : List PathNode) → after_nodes c (xs ++ ys) ≡ after_nodes (after_nodes c ys) xs
after_joined c [] ys = refl
after_joined c (x ∷ xs) ys = ap (λ (k : Comparison). after_node k x) (after_joined c xs ys)

pub in_the_middle : (is : List Item) (l x : Item) (others : List Item) → get_or ((is ++ l ∷ []) ++ others) (length is) x ≡ l
in_the_middle [] l x others = refl
in_the_middle (i ∷ is) l x others = in_the_middle is l x others

one_more : (count : ℕ) → count < 16 → from (16 - (count + 1)) (count + 1) ≡ (15 - count) ∷ from (16 - count) count
one_more count h =
    let k : count + 1 ≡ suc count = omega arith in
    let i : 16 - (count + 1) ≡ 15 - count = omega arith in
    let next : suc (15 - count) ≡ 16 - count = omega arith in
    ap₂ (λ (m n : ℕ). from m n) i k ∙ ap (λ (m : ℕ). (15 - count) ∷ from m count) next

module _ {at : ℕ} {items : List Item} (b : ItemBranch at items) (c : Comparison) (count : ℕ) (rest : List Item) (children : List (Option (List ℕ))) (d : Diff)
    (k : Coming b c count rest children d) (small : count < 16) (start : ℕ) (fits : start ≤ length rest)
    (run : All (λ i. rank_after at i ≡ suc (15 - count)) (drop start rest))
    (other : (x : Item) → 0 < start → rank_after at (get_or rest (start - 1) x) ≡ suc (15 - count) → ⊥) where
  abbrev j : ℕ
  j = 15 - count

  abbrev q : List ℕ
  q = b.group.path

  next : 16 - count ≡ suc j
  next = omega arith

  parts : items ≡ take start rest ++ (drop start rest ++ k.back)
  parts = k.parts ∙ ap (λ (is : List Item). is ++ k.back) (sym (take-append-drop start rest)) ∙ append_assoc (take start rest) (drop start rest) k.back

  fronts : (P : Item → Type 0) → AllByRecursion P items → AllByRecursion P (take start rest)
  fronts P a = (all_split P (take start rest) (drop start rest ++ k.back) (subst (λ (is : List Item). AllByRecursion P is) parts a)).0

  at_path : (P : ℕ → Type 0) → P at → P (length q)
  at_path P h = subst P (sym b.group.place) h

  low_rest : AtMostRank at (suc j) (take start rest)
  low_rest =
      (all_split (λ i. rank_after at i ≤ suc j) (take start rest) (drop start rest)
      (subst (AtMostRank at (suc j)) (sym (take-append-drop start rest)) (subst (λ (n : ℕ). AtMostRank at n rest) next k.low))).0

  last_other : (l : Item) (is : List Item) → take start rest ≡ is ++ l ∷ [] → rank_after at l ≡ suc j → ⊥
  last_other l is e r =
      let length_is : length is + 1 ≡ start = sym (length-append is (l ∷ [])) ∙ ap length (sym e) ∙ length-take-le start rest fits in
      let place : start - 1 ≡ length is = omega arith in
      let here : get_or rest (start - 1) l ≡ l =
      ap (λ (n : ℕ). get_or rest n l) place ∙ ap (λ (xs : List Item). get_or xs (length is) l) (sym (take-append-drop start rest) ∙ ap (λ (xs : List Item). xs ++ drop start rest) e)
      ∙ in_the_middle is l l (drop start rest) in
      other l (omega arith) (ap (rank_after at) here ∙ r)

  low_front : AtMostRank at j (take start rest)
  low_front =
      subst (λ (n : ℕ). AtMostRank n j (take start rest)) b.group.place
      (front_low q j (take start rest) (fronts (GoesOnFrom q) b.group.goes_on) (rise_joined (take start rest) (drop start rest ++ k.back) (subst ItemsRise parts b.rises)).0
      (at_path (λ n. AtMostRank n (suc j) (take start rest)) low_rest)
      (at_path (λ n. (l : Item) (is : List Item) → take start rest ≡ is ++ l ∷ [] → rank_after n l ≡ suc j → ⊥) last_other))

  on_run : AllByRecursion (λ i. rank_after at i ≡ suc j) (drop start rest)
  on_run = recursion_from_All (λ i. rank_after at i ≡ suc j) (drop start rest) run

  pub the_run : Run items q j (drop start rest)
  the_run = record {
    front = take start rest;
    back = k.back;
    parts = parts;
    before =
        all_weaker (λ i. rank_after (length q) i ≤ j) (λ i. rank_after (length q) i ≡ suc j → ⊥) (λ i h e. omega arith) (take start rest)
        (at_path (λ n. AtMostRank n j (take start rest)) low_front);
    on = at_path (λ n. AllByRecursion (λ i. rank_after n i ≡ suc j) (drop start rest)) on_run;
    after =
        all_weaker (λ i. 16 - count < rank_after (length q) i) (λ i. rank_after (length q) i ≡ suc j → ⊥) (λ i h e. omega arith) k.back
        (at_path (λ n. AboveRank n (16 - count) k.back) k.high);
  }

  abbrev pub run_group : (end : ℕ) → end ≡ at + 1 → ItemGroup end (drop start rest)
  run_group end e = group_of_run b j (drop start rest) end e the_run

  pub one_comes : (child : Option (List ℕ)) (more : List (Option (List ℕ))) (e : Diff) → more ≡ child ∷ children → child ≡ child_at_nibble b j
      → IsComparison e (after_nodes (after_nodes c (filter (is_made b.group.under) (flat_map (nodes_at_nibble b) (from (16 - count) count)))) (filter (is_made b.group.under) (nodes_at_nibble b j)))
      → Coming b c (count + 1) (take start rest) more e
  one_comes child more e pushed is come =
      let made : List PathNode → List PathNode = λ ns. filter (is_made b.group.under) ns in
      let less : 16 - (count + 1) ≡ j = omega arith in
      let nodes : made (flat_map (nodes_at_nibble b) (from (16 - (count + 1)) (count + 1)))
      ≡ made (nodes_at_nibble b j) ++ made (flat_map (nodes_at_nibble b) (from (16 - count) count)) =
      ap (λ (is : List ℕ). made (flat_map (nodes_at_nibble b) is)) (one_more count small)
      ∙ filter-append (is_made b.group.under) (nodes_at_nibble b j) (flat_map (nodes_at_nibble b) (from (16 - count) count)) in
      record {
        back = drop start rest ++ k.back;
        parts = parts;
        low = subst (λ (n : ℕ). AtMostRank at n (take start rest)) (sym less) low_front;
        high =
            subst (λ (n : ℕ). AboveRank at n (drop start rest ++ k.back)) (sym less)
            (all_joined (λ i. j < rank_after at i) (drop start rest) k.back (all_weaker (λ i. rank_after at i ≡ suc j) (λ i. j < rank_after at i) (λ i h. omega arith) (drop start rest) on_run)
            (all_weaker (λ i. 16 - count < rank_after at i) (λ i. j < rank_after at i) (λ i h. omega arith) k.back k.high));
        values =
            pushed ∙ ap₂ (λ (x : Option (List ℕ)) (xs : List (Option (List ℕ))). x ∷ xs) is k.values
            ∙ sym (ap (λ (is : List ℕ). map (child_at_nibble b) is) (one_more count small));
        come =
            subst (IsComparison e) (sym (ap (λ (ns : List PathNode). after_nodes c ns) nodes
            ∙ after_joined c (made (nodes_at_nibble b j)) (made (flat_map (nodes_at_nibble b) (from (16 - count) count))))) come;
      }

-- ---- all of them

pub all_come : {at : ℕ} {items : List Item} (b : ItemBranch at items) (c : Comparison) (count : ℕ) (rest : List Item) (children : List (Option (List ℕ))) (d : Diff) → count ≡ 16
    → Coming b c count rest children d
    → (children ≡ values_below b.group.suffixes b.group.path) × IsComparison d (after_nodes c (filter (is_made b.group.under) (nodes_below b.group.suffixes b.group.path)))
all_come b c count rest children d all k = (
  k.values ∙ ap (λ (n : ℕ). map (child_at_nibble b) (from (16 - n) n)) all,
  subst (λ (n : ℕ). IsComparison d (after_nodes c (filter (is_made b.group.under) (flat_map (nodes_at_nibble b) (from (16 - n) n))))) all k.come,
)
