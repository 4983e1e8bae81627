use Rattle.std.proofs.Common.{List, [], subst, sym}
use Rattle.std.specs.Prelude.{IfOk}
use Rattle.trie_model.specs.Nodes.{PathNode, stored_nodes}
use Rattle.trie_model.specs.State.{apply, no_keys}
use Rattle.trie_model.specs.Trie.{trie_root}
use Rattle.trie_change.specs.Deltas.{IsDeltaOf}
use Rattle.trie_change.specs.inner.Settled.{AreEnough}
use Rattle.trie_change.specs.declared.frontier.Piece.{Piece}
use Rattle.trie_change.specs.inner.Pieces.{all_items}
use Rattle.trie_change.proofs.JobItems.{all_without}
use Rattle.trie_change.proofs.StageEnds.{finished, finished_new}
use Rattle.trie_change.proofs.change_job.ChangeJob.finish.Goals as goal

pub returns-clause-changed : goal.returns-clause-changed
returns-clause-changed c = λ m changes changing.
    c.delta_of.ensures.settled (stored_nodes m) (apply m changes)
    (subst (λ (ps : List Piece). AreEnough (stored_nodes m) (apply m changes) c.args.self.fed.items (all_items ps)) (sym c.as_slice.ensures.value)
    (finished c.args.self m changes changing))

pub returns-clause-created : goal.returns-clause-created
returns-clause-created c = λ changes creating.
    let d = c.delta_of.ensures.settled [] (apply no_keys changes)
    (subst (λ (ps : List Piece). AreEnough [] (apply no_keys changes) c.args.self.fed.items (all_items ps)) (sym c.as_slice.ensures.value)
    (finished_new c.args.self changes creating)) in
    subst (λ (ns : List PathNode). IfOk c.delta_of.result (λ d. IsDeltaOf d (trie_root (apply no_keys changes)) ns [])) (all_without (stored_nodes (apply no_keys changes))) d
