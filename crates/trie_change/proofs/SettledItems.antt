-- What is put and dropped of the nodes that were fed and made is what is put and dropped of all stored ones.
use Rattle.std.proofs.Common.{◌≡◌, Bool, true, false, cond, List, [], ◌∷◌, refl, ap, sym, ◌∙◌, inl, inr}
use Rattle.std.specs.Prelude.{◌&&◌, ◌||◌, not, filter}
use Rattle.std.specs.List.{AllByRecursion}
use Rattle.sdb_blake2.specs.Blake2b.{H}
use Rattle.trie_model.specs.Node.{spelling}
use Rattle.trie_model.specs.Nodes.{PathNode, all_over, has_node, is_stored, nodes_without, stored_nodes}
use Rattle.trie_model.specs.State.{State}
use Rattle.trie_model.specs.Trie.{Suffix, below, node_of_all, root_node, suffixes_of, trie_root, with_prefix}
use Rattle.trie_root.proofs.ReadOffStates.{suffixes_sorted}
use Rattle.trie_root.proofs.Stripped.{true_from_T}
use Rattle.trie_read.proofs.Among.{Among, among_from, contains_from}
use Rattle.trie_read.proofs.Hanging.{below-nil}
use Rattle.trie_read.proofs.Rising.{Rises, rises_kept, stored_rise}
use Rattle.trie_change.specs.Frontier.{is_under}
use Rattle.trie_change.specs.declared.frontier.Fed.{Fed}
use Rattle.trie_change.specs.Item.{Item}
use Rattle.trie_change.specs.inner.Built.{GoesOnFrom, ItemGroup, is_made, made_of_group, node_of_group, nodes_from}
use Rattle.trie_change.specs.inner.Diffs.{after_nodes, all_dropped, all_left}
use Rattle.trie_change.specs.inner.Settled.{AreEnough}
use Rattle.trie_change.proofs.Compared.{all_compared, drops_at_end}
use Rattle.trie_change.proofs.OldAbove.{Compares}
use Rattle.trie_change.proofs.Found.{has_it}
use Rattle.trie_change.proofs.FrontierRises.{frontier_rises}
use Rattle.trie_change.proofs.LowerNodes.{is_node, kept_alike}
use Rattle.trie_change.proofs.SortedNodes.{one_node}
use Rattle.trie_change.proofs.NodeEntries.{rises_from}

-- ---- all items are a group

pub with_nothing : (ss : List Suffix) → with_prefix [] ss ≡ ss
with_nothing [] = refl
with_nothing (s ∷ ss) = ap (λ (ts : List Suffix). s ∷ ts) (with_nothing ss)

pub go_on : (items : List Item) → AllByRecursion (GoesOnFrom []) items
go_on [] = tt
go_on (i ∷ is) = (refl, go_on is)

abbrev pub all_items : (old : List PathNode) (m2 : State) (fed : List Fed) (items : List Item) → AreEnough old m2 fed items → ItemGroup 0 items
all_items old m2 fed items s = record {
  suffixes = suffixes_of m2;
  path = [];
  under = is_under items;
  sorted = true_from_T _ (suffixes_sorted m2);
  place = refl;
  goes_on = go_on items;
  stubs = s.frontier.stubs;
  hanging = s.hanging;
  whole = s.frontier.whole ∙ sym (with_nothing (below [] (suffixes_of m2)) ∙ below-nil (suffixes_of m2));
  same = λ n rest e. refl;
  rise = frontier_rises (suffixes_of m2) items (suffixes_sorted m2) s.frontier.stubs s.frontier.whole;
}

-- ---- lists without what is under the stubs

filter_twice : (p q : PathNode → Bool) (ns : List PathNode) → filter p (filter q ns) ≡ filter (λ n. q n && p n) ns
filter_twice p q [] = refl
filter_twice p q (n ∷ ns) =
    let rest : filter p (filter q ns) ≡ filter (λ m. q m && p m) ns = filter_twice p q ns in
    elim (q n) as (λ b. filter p (cond b (n ∷ filter q ns) (filter q ns)) ≡ cond (b && p n) (n ∷ filter (λ m. q m && p m) ns) (filter (λ m. q m && p m) ns)) [
      | true ↦ ap (λ (ms : List PathNode). cond (p n) (n ∷ ms) ms) rest
      | false ↦ rest
    ]

all_among : (P : PathNode → Type 0) (ns : List PathNode) → ((n : PathNode) → Among n ns → P n) → AllByRecursion P ns
all_among P [] h = tt
all_among P (n ∷ ns) h = (h n (inl refl), all_among P ns (λ m a. h m (inr a)))

-- a node that passes is in what is kept of a list where it is in the list
has_kept : (p : PathNode → Bool) (n : PathNode) (ns : List PathNode) → p n ≡ true → has_node (filter p ns) n ≡ has_node ns n
has_kept p n [] e = refl
has_kept p n (m ∷ ns) e = by_test (has_kept p n ns e) (p m) (is_node n m) refl refl
  where
    by_test : has_node (filter p ns) n ≡ has_node ns n → (b t : Bool) → p m ≡ b → is_node n m ≡ t
        → has_node (cond b (m ∷ filter p ns) (filter p ns)) n ≡ (is_node n m || has_node ns n)
    by_test rest true t h k = ap (λ (x : Bool). is_node n m || x) rest
    by_test rest false true h k = let both : true ≡ false = sym e ∙ ap p (sym (one_node n m k)) ∙ h in absurd cc
    by_test rest false false h k = rest ∙ sym (ap (λ (x : Bool). x || has_node ns n) k)

-- what two lists have under the stubs is in both, and is neither put nor dropped
pub kept_differences : (u : PathNode → Bool) (ns os : List PathNode) → ((n : PathNode) → u n ≡ true → Among n ns → Among n os)
    → nodes_without (filter (λ n. not (u n)) ns) (filter (λ n. not (u n)) os) ≡ nodes_without ns os
kept_differences u ns os both =
    let kept : PathNode → Bool = λ n. not (u n) in
    filter_twice (λ n. not (has_node (filter kept os) n)) kept ns
    ∙ kept_alike (λ n. kept n && not (has_node (filter kept os) n)) (λ n. not (has_node os n)) ns (all_among _ ns each)
  where
    each : (n : PathNode) → Among n ns → (not (u n) && not (has_node (filter (λ m. not (u m)) os) n)) ≡ not (has_node os n)
    each n a = by_test (u n) refl
      where
        by_test : (b : Bool) → u n ≡ b → (not b && not (has_node (filter (λ m. not (u m)) os) n)) ≡ not (has_node os n)
        by_test true e = sym (ap not (has_it os n (both n e a)))
        by_test false e = ap not (has_kept (λ m. not (u m)) n os (ap not e))

-- ---- the state's

module _ (old : List PathNode) (m2 : State) (fed : List Fed) (items : List Item) (s : AreEnough old m2 fed items) where
  abbrev kept : PathNode → Bool
  kept n = not (is_under items n)

  pub fed_rise : Rises (filter kept old)
  fed_rise = rises_kept kept old (rises_from old s.rises)

  made_is : made_of_group (all_items old m2 fed items s) ≡ filter kept (stored_nodes m2)
  made_is =
      ap (λ (ss : List Suffix). filter (is_made (is_under items)) (nodes_from [] ss)) (below-nil (suffixes_of m2))
      ∙ sym (filter_twice kept is_stored (all_over (suffixes_of m2)))

  pub root_is : H (node_of_group (all_items old m2 fed items s)).bytes ≡ trie_root m2
  unfolding trie_root root_node
  root_is = ap (λ (ss : List Suffix). H (spelling (node_of_all ss))) (below-nil (suffixes_of m2))

  compared : Compares (filter kept old) (filter kept (stored_nodes m2)) (after_nodes (all_left (filter kept old)) (filter kept (stored_nodes m2)))
  compared = all_compared (filter kept old) (filter kept (stored_nodes m2)) fed_rise (rises_kept kept (stored_nodes m2) (rises_from (stored_nodes m2) (stored_rise (suffixes_of m2))))

  pub puts_are : (after_nodes (all_left (filter kept old)) (made_of_group (all_items old m2 fed items s))).puts ≡ nodes_without (stored_nodes m2) old
  puts_are =
      ap (λ (ns : List PathNode). (after_nodes (all_left (filter kept old)) ns).puts) made_is ∙ compared.puts
      ∙ kept_differences (is_under items) (stored_nodes m2) old (λ n u a. among_from n old ((s.same n u).1 (contains_from n (stored_nodes m2) a)))

  pub drops_are : (let c = after_nodes (all_left (filter kept old)) (made_of_group (all_items old m2 fed items s)) in all_dropped c.left c.drops) ≡ nodes_without old (stored_nodes m2)
  drops_are =
      ap (λ (ns : List PathNode). let c = after_nodes (all_left (filter kept old)) ns in all_dropped c.left c.drops) made_is
      ∙ drops_at_end (filter kept old) (filter kept (stored_nodes m2)) (after_nodes (all_left (filter kept old)) (filter kept (stored_nodes m2))) compared
      ∙ kept_differences (is_under items) old (stored_nodes m2) (λ n u a. among_from n (stored_nodes m2) ((s.same n u).0 (contains_from n old a)))
