use Rattle.std.proofs.Common.{ℕ, ◌+◌, arith, drop, ap, sym, ◌∙◌}
use Rattle.std.specs.Prelude.{is_some}
use Rattle.trie_model.specs.Trie.{after_prefix}
use Rattle.sdb_base.specs.Nibbles.{nibbles_of}
use Rattle.trie_root.proofs.Nibble.{length-nibbles_of}
use Rattle.trie_codec.specs.NodeParts.{node_of_ref}
use Rattle.trie_read.proofs.Descents.{one_more, too_long}
use Rattle.trie_read.proofs.descent.goes_on.Goals as goal

pub returns-then-len-key-clause-follows : goal.returns-then-len-key-clause-follows
returns-then-len-key-clause-follows c =
    let ns = nibbles_of c.args.key.now in
    sym (too_long (node_of_ref c.args.node.now).partial c.args.at ns (omega (arith, length-nibbles_of c.args.key.now, c.partial_len-len.ensures)))

pub loop-i-preserved : goal.loop-i-preserved
loop-i-preserved c =
    let ns = nibbles_of c.args.key.now in
    let p = (node_of_ref c.args.node.now).partial in
    ap (λ (k : ℕ). is_some (after_prefix (drop (c.loop-i.i + 1) p) (drop k ns))) (omega arith)
    ∙ sym (one_more p ns c.loop-i.i (c.args.at + c.loop-i.i) (omega (arith, c.partial_len-len.ensures)) (omega (arith, length-nibbles_of c.args.key.now))
    (sym c.nibble_at.ensures.value ∙ c.if-nibble_at-nibble.false ∙ c.nibble.ensures))
    ∙ c.loop-i.invariant
