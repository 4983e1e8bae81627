use Rattle.std.proofs.Common.{List, ℕ, drop, sym, ap, ◌∙◌}
use Rattle.std.proofs.lemmas.Result.{IfOk-weaker}
use Rattle.sdb_base.specs.Nibbles.{nibbles_of}
use Rattle.trie_model.specs.Node.{spelling}
use Rattle.trie_codec.specs.Parts.{leaf_with}
use Rattle.trie_root.proofs.OneLeaf.{leaf_of_suffix}
use Rattle.trie_root.proofs.root.spell_leaf.Goals as goal

pub returns : goal.returns
returns c =
    let rest : List ℕ → List ℕ = λ key. drop c.args.at (nibbles_of key) in
    IfOk-weaker c.encode_leaf.result _ _
    (λ b h. h ∙ ap (λ (key : List ℕ). spelling (leaf_with (rest key) c.as_slice-2.result.now)) c.as_slice.ensures
    ∙ ap (λ (value : List ℕ). spelling (leaf_with (rest c.args.pair.now.key) value)) c.as_slice-2.ensures
    ∙ ap spelling (sym (leaf_of_suffix (rest c.args.pair.now.key) c.args.pair.now.value))) c.encode_leaf.ensures
