use Rattle.std.proofs.Common.{◌≡◌, [], length}
use Rattle.std.specs.Vec.Iter.{into_iter_items, into_iter_len}
use Rattle.trie_change.specs.inner.LastSet.{set_all}
use Rattle.trie_change.proofs.settings.last_of_each.Given as goal

-- what is left of the changes sets over what is set so far what all of them set
abbrev pub invariant-loop-change : goal.invariant-loop-change
invariant-loop-change l = record {
  set : set_all l.last.entries (into_iter_items l.change-iterator) ≡ set_all [] l.fn.changes;
  left : into_iter_len l.change-iterator ≡ length (into_iter_items l.change-iterator);
}
