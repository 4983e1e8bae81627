use Rattle.std.proofs.Common.{◌≡◌, [], true, ap, subst, sym, ◌∙◌, inl}
use Rattle.std.proofs.lemmas.Result.{IfOk-weaker}
use Rattle.sdb_blake2.specs.Blake2b.{H}
use Rattle.trie_model.specs.Nodes.{PathNode, is_stored}
use Rattle.trie_read.proofs.Stored.{is_kept}
use Rattle.trie_change.specs.inner.Built.{IsMade, made_of_group, node_of_group}
use Rattle.trie_change.specs.inner.Diffs.{after_nodes}
use Rattle.trie_change.specs.inner.Pieces.{all_items}
use Rattle.trie_change.proofs.EmptyItems.{path_of_root}
use Rattle.trie_change.proofs.MadeValues.{come_with}
use Rattle.trie_change.proofs.build.root_of.Goals as goal

pub returns-in-Kept-clause-root : goal.returns-in-Kept-clause-root
returns-in-Kept-clause-root c = λ g k is.
    let made = subst (IsMade k (node_of_group g) (made_of_group g) c.root_made.new.diff) c.in-Kept.is (c.in_ok-hash.ensures.made g k is) in
    (made.0, made.2)

pub returns-in-New-clause-root : goal.returns-in-New-clause-root
returns-in-New-clause-root c = λ g k is.
    let n : PathNode = node_of_group g in
    let made = subst (IsMade k n (made_of_group g) c.root_made.new.diff) c.in-New.is (c.in_ok-hash.ensures.made g k is) in
    let path : n.path ≡ [] = path_of_root (all_items c.args.items.now) g in
    let stored : is_stored n ≡ true = is_kept n (inl path) in
    IfOk-weaker c.emit.result _ _
    (λ h r. (r.0 ∙ ap H made.0, come_with k n (made_of_group g) made.1 c.emit.new.self true stored made.2 r.1))
    (c.emit.ensures.emitted (after_nodes k made.1) n path (sym made.0) made.3)
