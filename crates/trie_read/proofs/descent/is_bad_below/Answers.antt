use Rattle.trie_codec.specs.NodeParts.{node_of_ref}
use Rattle.trie_read.proofs.Descents.{far_is_bad}
use Rattle.trie_read.proofs.descent.is_bad_below.Goals as goal

pub returns-then-at-gt-MOST_NIBBLES : goal.returns-then-at-gt-MOST_NIBBLES
returns-then-at-gt-MOST_NIBBLES c = far_is_bad c.args.at c.args.bytes.now (node_of_ref c.args.node.now) c.requires.read c.if-at-gt-MOST_NIBBLES.true
