use Rattle.std.proofs.Common.{◌≡◌, ◌-◌, ◌/◌, ◌<◌, false, length, sym, ◌∙◌, arith}
use Rattle.std.specs.Prelude.{nat_lt}
use Rattle.std.proofs.lemmas.List.Elements.{All-from_get_or}
use Rattle.trie_codec.specs.NodeParts.{node_of_ref}
use Rattle.trie_read.proofs.FewBytes.{read_not_deep}
use Rattle.trie_read.proofs.descent.spells_too_deep.Goals as goal

pub returns-else-bytes-at : goal.returns-else-bytes-at
returns-else-bytes-at c =
    let bytes = c.args.bytes.now in
    let few : nat_lt ((2048 - c.args.at) / 2) (length bytes) ≡ false = grind arith in
    few ∙ sym (read_not_deep 33 c.args.at bytes (node_of_ref c.args.node.now) (All-from_get_or (λ b. b < 256) bytes 0 (λ k h. omega (arith, c.type_inv.bytes k)))
    c.requires.read (omega (arith, c.if-bytes-at.false, c.requires.at)))
