use Rattle.std.proofs.Common.{List, ap, ◌∙◌}
use Rattle.std.specs.List.{slice_get}
use Rattle.trie_change.specs.declared.frontier.Sibling.{Sibling}
use Rattle.trie_change.proofs.SiblingOrder.{siblings_stand}
use Rattle.trie_change.proofs.settings.order.Goals as goal

pub returns-in-Some-clause-all : goal.returns-in-Some-clause-all
returns-in-Some-clause-all c =
    siblings_stand c.args.key.now c.args.piece.now c.as_slice-in-Some.result.now c.in-Some.first.now c.in-Siblings.siblings c.child_order.result c.in-Siblings.is
    c.as_slice-in-Some.ensures (c.in-Some.ensures.value ∙ ap (λ (xs : List Sibling). slice_get xs 0) c.as_slice.ensures.value) c.child_order.ensures
