use Rattle.std.proofs.Common.{arith}
use Rattle.trie_root.proofs.Nibble.{high_half, low_half}
use Rattle.trie_read.proofs.descent.nibble_at.Goals as goal

pub returns-then-i-eq0-clause-value : goal.returns-then-i-eq0-clause-value
returns-then-i-eq0-clause-value c = high_half c.args.key.now c.args.i (omega arith)

pub returns-else-i-eq0-clause-value : goal.returns-else-i-eq0-clause-value
returns-else-i-eq0-clause-value c = low_half c.args.key.now c.args.i (omega arith)
