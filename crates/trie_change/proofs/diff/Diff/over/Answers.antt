use Rattle.std.proofs.Common.{◌≡◌, List, reverse, ap, IsPermutation}
use Rattle.std.specs.Ordering.{is_lt}
use Rattle.std.proofs.lemmas.Cmp.{nat_list_cmp_total}
use Rattle.std.proofs.lemmas.List.Sorted.{All-permutation, IsPermutation-map, IsPermutation-trans, answers_always, ranks_by, sorted_far}
use Rattle.trie_model.specs.Nodes.{PathNode}
use Rattle.trie_change.specs.declared.frontier.Fed.{Fed}
use Rattle.trie_change.specs.inner.Diffs.{HasItsHash}
use Rattle.trie_change.specs.inner.Settled.{fed_nodes}
use Rattle.trie_change.proofs.FedNodes.{fed_node}
use Rattle.trie_change.proofs.SortedNodes.{fed_ascend, lower_fed, sorted_as_before}
use Rattle.trie_change.proofs.diff.Diff.over.Goals as goal

pub returns-clause-begins : goal.returns-clause-begins
returns-clause-begins c = λ old r p h.
    let before = c.args.fed.items in
    let after = c.sort_by.new.self.items in
    let ranks = ranks_by nat_list_cmp_total (λ (f : Fed). f.path.items) in
    let sorted = c.in_ok-sort_by.ensures.sorted lower_fed ranks (answers_always _ _ _ (λ f a r f' k. ap is_lt k.met)) in
    let moved : IsPermutation old (fed_nodes after) =
    IsPermutation-trans old (fed_nodes before) (fed_nodes after) p (IsPermutation-map fed_node before after c.in_ok-sort_by.ensures.permutation) in
    let same : old ≡ fed_nodes after = sorted_as_before old (fed_nodes after) r (fed_ascend after (sorted_far lower_fed ranks after sorted)) moved in
    record {
      left = ap (λ (ns : List PathNode). reverse ns) same;
      hashes = All-permutation HasItsHash before after c.in_ok-sort_by.ensures.permutation h;
      puts = c.in_ok-with_capacity.ensures.items;
      drops = c.in_ok-with_capacity-2.ensures.items;
    }
