use Rattle.std.proofs.Common.{List, ℕ, ap, sym, ◌∙◌}
use Rattle.std.specs.Prelude.{slice_index}
use Rattle.std.proofs.lemmas.List.Elements.{All-more, at_read}
use Rattle.sdb_base.specs.Nibbles.{nibbles_of}
use Rattle.trie_root.specs.inner.Groups.{HasNext}
use Rattle.trie_root.proofs.root.group_len.Goals as goal

pub loop-i-preserved : goal.loop-i-preserved
loop-i-preserved c =
    let next : HasNext c.args.at c.args.nibble c.index-pairs-i.result =
    ap (λ (k : List ℕ). slice_index (nibbles_of k) c.args.at) (sym c.as_slice.ensures) ∙ sym c.nibble_at.ensures.value ∙ c.if-nibble_at-nibble.false in
    λ k d h. All-more (HasNext c.args.at c.args.nibble) c.args.pairs.now c.loop-i.i d c.loop-i-test.true c.loop-i.invariant
    (at_read c.args.pairs.now (HasNext c.args.at c.args.nibble) c.loop-i.i c.index-pairs-i.result c.loop-i-test.true c.index-pairs-i.is next d) k d h
