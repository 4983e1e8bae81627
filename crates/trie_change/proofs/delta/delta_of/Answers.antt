use Rattle.std.proofs.Common.{List, map, ap, ◌∙◌}
use Rattle.std.specs.Prelude.{filter, not}
use Rattle.std.proofs.lemmas.List.Elements.{All-from_recursion}
use Rattle.trie_model.specs.Nodes.{PathNode}
use Rattle.trie_change.specs.Deltas.{hash_of_node, hashed}
use Rattle.trie_change.specs.Frontier.{is_under}
use Rattle.trie_change.specs.inner.Built.{made_of_group}
use Rattle.trie_change.specs.inner.Diffs.{HasItsHash, after_nodes, all_left}
use Rattle.trie_change.specs.inner.Pieces.{all_items as known_items}
use Rattle.trie_change.proofs.SettledItems.{all_items, drops_are, fed_rise, puts_are, root_is}
use Rattle.trie_change.proofs.NodeEntries.{rise_by_path}
use Rattle.trie_change.proofs.delta.delta_of.Goals as goal

pub returns-clause-settled : goal.returns-clause-settled
returns-clause-settled c = λ old m2 s.
    let items = known_items c.args.items.now in
    let fed = c.args.fed.items in
    let first : List PathNode = filter (λ n. not (is_under items n)) old in
    let group = all_items old m2 fed items s in
    let begun = c.in_ok-diff.ensures.begins first (rise_by_path first (fed_rise old m2 fed items s)) s.fed_once (All-from_recursion HasItsHash fed s.hashes) in
    let root = c.in_ok-root.ensures.root group (all_left first) begun in
    let end = c.in_ok-puts.ensures.finished (after_nodes (all_left first) (made_of_group group)) root.1 in
    record {
      root_is = root.0 ∙ root_is old m2 fed items s;
      puts_are = c.from_vec.ensures ∙ end.0 ∙ ap (λ (ns : List PathNode). map hashed ns) (puts_are old m2 fed items s);
      drops_are = c.from_vec-2.ensures ∙ end.1 ∙ ap (λ (ns : List PathNode). map hash_of_node ns) (drops_are old m2 fed items s);
    }
