use Rattle.std.proofs.Common.{subst, arith}
use Rattle.std.proofs.lemmas.List.{take_all}
use Rattle.std.proofs.lemmas.List.Elements.{All-more, at_read}
use Rattle.sdb_base.specs.declared.Pair.{Pair}
use Rattle.trie_model.specs.Limits.{AreWithin}
use Rattle.trie_root.specs.Pairs.{AllWithin}
use Rattle.trie_tests.proofs.roots.fits.Goals as goal

pub loop-pair-preserved : goal.loop-pair-preserved
loop-pair-preserved c =
    let Short : Pair → Type 0 = λ (p : Pair). AreWithin p.key p.value in
    let i = c.loop-pair.pair-index in
    let here : Short c.pair-item.result = record { short_key = omega arith; short_value = omega arith } in
    λ k d h. All-more Short c.args.pairs.now i d c.loop-pair-test.true c.loop-pair.invariant
    (at_read c.args.pairs.now Short i c.pair-item.result c.loop-pair-test.true c.pair-item.is here d) k d h

pub returns : goal.returns
returns c = λ h. subst AllWithin (take_all c.loop-pair.pair-index c.args.pairs.now c.loop-pair-test.false) c.loop-pair.invariant
