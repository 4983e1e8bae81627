use Rattle.trie_change.specs.inner.Pieces.{all_items}
use Rattle.trie_change.proofs.EmptyItems.{no_items_made}
use Rattle.trie_change.proofs.PieceItems.{no_items}
use Rattle.trie_change.proofs.build.root_made.Goals as goal

pub returns-then-is_empty-clause-made : goal.returns-then-is_empty-clause-made
returns-then-is_empty-clause-made c = λ g k is.
    no_items_made (all_items c.args.items.now) g c.in_ok-spell_empty.field-0 k c.args.diff.now (no_items c.args.items.now c.if-is_empty.ensures)
    c.in_ok-spell_empty.ensures.spelled is
