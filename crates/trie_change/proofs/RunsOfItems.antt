-- One nibble's child comes with the items that go on with the nibble: none, one stored node, or more.
use Rattle.std.proofs.Common.{◌≡◌, ◌⊎◌, ℕ, suc, ◌+◌, ◌-◌, ◌<◌, ◌≤◌, List, [], ◌∷◌, ◌++◌, length, get_or, take, drop, Option, All, Some, None, refl, ap, subst, sym, ◌∙◌, inl, inr, length-append, arith}
use Rattle.std.specs.Prelude.{filter}
use Rattle.std.specs.List.{AllByRecursion, flat_map}
use Rattle.std.proofs.Math.Seq.{drop-append_seam, take-append_seam}
use Rattle.std.proofs.lemmas.List.Elements.{All-from_recursion}
use Rattle.trie_model.specs.Nodes.{PathNode, if_any}
use Rattle.trie_model.specs.Trie.{Suffix, below, child_value, node_of_all}
use Rattle.trie_root.proofs.ReadOffNibbles.{from}
use Rattle.trie_change.specs.Item.{Item}
use Rattle.trie_change.specs.declared.diff.Diff.{Diff}
use Rattle.trie_change.specs.declared.frontier.Sibling.{Sibling}
use Rattle.trie_change.specs.inner.Built.{IsMade, ItemBranch, ItemGroup, is_made, made_of_group, node_of_group, nodes_at, nodes_from, rank_after}
use Rattle.trie_change.specs.inner.Diffs.{Comparison, IsComparison, after_nodes}
use Rattle.trie_change.specs.inner.Pieces.{sibling_item}
use Rattle.trie_change.specs.declared.build.Made.TheVariants as made
use Rattle.trie_change.proofs.ChildRuns.{Coming, in_the_middle, nodes_at_nibble, one_comes, run_group}
use Rattle.trie_change.proofs.ChildValues.{any_there, group_some, longer_path, value_there}
use Rattle.trie_change.proofs.EmptyItems.{nothing_with}
use Rattle.trie_change.proofs.FedNodes.{ended}
use Rattle.trie_change.proofs.KeptStubs.{kept_stub}
use Rattle.trie_change.proofs.MadeValues.{stored_long, value_hashed}

-- the child over some items is pushed, and what is made below it has come
abbrev pub IsPushed : (at : ℕ) (run : List Item) (children more : List (Option (List ℕ))) (d e : Diff) → Type 0
IsPushed at run children more d e = (g : ItemGroup at run) (k : Comparison) → IsComparison d k
    → (more ≡ child_value node_of_all (below g.path g.suffixes) ∷ children) × IsComparison e (after_nodes k (filter (is_made g.under) (nodes_at g.suffixes g.path)))

-- ---- no item

pub nothing_there : (at : ℕ) (children more : List (Option (List ℕ))) (d : Diff) → more ≡ None ∷ children → IsPushed at [] children more d d
nothing_there at children more d pushed = λ g k is.
    let none : below g.path g.suffixes ≡ [] = nothing_with g.path (below g.path g.suffixes) g.whole in (
      subst (λ (us : List Suffix). more ≡ child_value node_of_all us ∷ children) (sym none) pushed,
      subst (λ (us : List Suffix). IsComparison d (after_nodes k (filter (is_made g.under) (if_any (nodes_from g.path) us)))) (sym none) is,
    )

-- ---- a stored node's hash

pub sibling_there : (at : ℕ) (end : List ℕ) (s : Sibling) (children more : List (Option (List ℕ))) (d : Diff) → length end ≡ at → more ≡ Some s.hash.0 ∷ children
    → IsPushed (at + 1) (sibling_item end s ∷ []) children more d d
sibling_there at end s children more d len pushed = λ g k is.
    let n : PathNode = node_of_group g in
    let here : length (end ++ s.nibble ∷ []) ≡ at + 1 = length-append end (s.nibble ∷ []) ∙ ap (λ (m : ℕ). m + 1) len in
    let kept : IsMade k n (made_of_group g) d (made.Kept s.hash) = kept_stub (at + 1) _ [] g here k d is in
    let there : below g.path g.suffixes ≡ [] → ⊥ = group_some (at + 1) (sibling_item end s ∷ []) g (omega arith) (omega arith) in
    let long : 32 ≤ length n.bytes = stored_long n (longer_path (at + 1) (sibling_item end s ∷ []) g (omega arith)) kept.1 in (
      pushed ∙ ap (λ (o : Option (List ℕ)). o ∷ children)
          (ap (λ (v : List ℕ). Some v) (kept.0 ∙ sym (value_hashed n.bytes long)) ∙ sym (value_there (below g.path g.suffixes) there)),
      subst (λ (ns : List PathNode). IsComparison d (after_nodes k (filter (is_made g.under) ns))) (sym (any_there (nodes_from g.path) (below g.path g.suffixes) there)) kept.2,
    )

-- ---- what comes with them

pub comes_with : {at : ℕ} {items : List Item} (b : ItemBranch at items) (c : Comparison) (count : ℕ) (front run : List Item) (children more : List (Option (List ℕ))) (d e : Diff)
    → Coming b c count (front ++ run) children d → count < 16 → AllByRecursion (λ i. rank_after at i ≡ suc (15 - count)) run
    → ((l : Item) (is : List Item) → front ≡ is ++ l ∷ [] → rank_after at l ≡ suc (15 - count) → ⊥)
    → IsPushed (at + 1) run children more d e → Coming b c (count + 1) front more e
comes_with {at = at} b c count front run children more d e k small ranks other pushed =
    let left : List Item = front ++ run in
    let start : ℕ = length front in
    let taken : take start left ≡ front = take-append_seam front run in
    let dropped : drop start left ≡ run = drop-append_seam front run in
    let fits : start ≤ length left = omega (arith, length-append front run) in
    let on_run : All (λ i. rank_after at i ≡ suc (15 - count)) (drop start left) =
    subst (λ (is : List Item). All (λ i. rank_after at i ≡ suc (15 - count)) is) (sym dropped) (All-from_recursion (λ i. rank_after at i ≡ suc (15 - count)) run ranks) in
    let before : (x : Item) → 0 < start → rank_after at (get_or left (start - 1) x) ≡ suc (15 - count) → ⊥ = λ x some r. last_before x some r (ended front) in
    let group = run_group b c count left children d k small start fits on_run before (at + 1) refl in
    let child = subst (λ (is : List Item). IsPushed (at + 1) is children more d e) (sym dropped) pushed group
    (after_nodes c (filter (is_made b.group.under) (flat_map (nodes_at_nibble b) (from (16 - count) count)))) k.come in
    subst (λ (is : List Item). Coming b c (count + 1) is more e) taken
    (one_comes b c count left children d k small start fits on_run before (child_value node_of_all (below group.path group.suffixes)) more e child.0 refl child.1)
  where
    last_before : (x : Item) → 0 < length front → rank_after at (get_or (front ++ run) (length front - 1) x) ≡ suc (15 - count)
        → (front ≡ []) ⊎ ((is : List Item) × (l : Item) × (front ≡ is ++ l ∷ [])) → ⊥
    last_before x some r (inl none) = absurd (omega (arith, ap length none))
    last_before x some r (inr l) =
        let place : length front - 1 ≡ length l.0 = omega (arith, ap length l.2, length-append l.0 (l.1 ∷ [])) in
        let here : get_or (front ++ run) (length front - 1) x ≡ l.1 =
        ap (λ (n : ℕ). get_or (front ++ run) n x) place ∙ ap (λ (xs : List Item). get_or (xs ++ run) (length l.0) x) l.2 ∙ in_the_middle l.0 l.1 x run in
        other l.1 l.0 l.2 (sym (ap (rank_after at) here) ∙ r)
