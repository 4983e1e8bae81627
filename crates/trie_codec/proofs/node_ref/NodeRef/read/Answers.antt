use Rattle.std.proofs.Common.{rules, ◌≡◌, ◌<◌, Err, Ok, arith}
use Rattle.std.proofs.lemmas.List.Elements.{All-from_get_or}
use Rattle.trie_codec.specs.NodeParts.{node_of_ref}
use Rattle.trie_codec.specs.Reading.{node_of_bytes}
use Rattle.trie_codec.specs.declared.fault.CodecFault.TheVariants.{Trailing}
use Rattle.trie_codec.proofs.ReadWhole.{whole_was_written}
use Rattle.trie_codec.proofs.Spellings.{found_as_spelled, spelled_is_no_fault}
use Rattle.trie_codec.proofs.node_ref.NodeRef.read.Goals as goal

pub returns-clause-spelled : goal.returns-clause-spelled
unfolding node_of_bytes
returns-clause-spelled c =
    let found : node_of_bytes c.args.bytes.now ≡ Ok (node_of_ref c.in_ok-node.node) = search rules in
    whole_was_written (node_of_ref c.in_ok-node.node) c.args.bytes.now (All-from_get_or (λ b. b < 256) c.args.bytes.now 0 (λ k h. omega (arith, c.type_inv.bytes k))) found

pub returns-in_err-node-clause-only : goal.returns-in_err-node-clause-only
unfolding node_of_bytes
returns-in_err-node-clause-only c = λ n is_node same.
    let refused : node_of_bytes c.args.bytes.now ≡ Err c.in_err-node.field-0.0 = search rules in
    absurd (spelled_is_no_fault c.args.bytes.now c.in_err-node.field-0.0 n refused is_node same)

pub returns-then-not-is_empty-clause-only : goal.returns-then-not-is_empty-clause-only
unfolding node_of_bytes
returns-then-not-is_empty-clause-only c = λ n is_node same.
    let refused : node_of_bytes c.args.bytes.now ≡ Err Trailing = search rules in
    spelled_is_no_fault c.args.bytes.now Trailing n refused is_node same

pub returns-clause-only : goal.returns-clause-only
unfolding node_of_bytes
returns-clause-only c = λ n is_node same.
    let found : node_of_bytes c.args.bytes.now ≡ Ok (node_of_ref c.in_ok-node.node) = search rules in
    found_as_spelled c.args.bytes.now (node_of_ref c.in_ok-node.node) n found is_node same
