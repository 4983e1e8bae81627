use Rattle.std.proofs.Common.{rules, ◌≡◌, sym, ◌∙◌, arith}
use Rattle.std.proofs.lemmas.List.{take_all}
use Rattle.sdb_blake2.specs.Blake2b.{words_of_block}
use Rattle.sdb_blake2.proofs.Blocks.{words_more}
use Rattle.sdb_blake2.proofs.block.words_of_block.Goals as goal

pub load-init : goal.load-init
unfolding words_of_block
load-init c = search rules

pub load-preserved : goal.load-preserved
load-preserved c = (
  search rules,
  words_more c.args.block.now c.load.words c.load.i _ c.load.invariant.1 (omega arith) c.word_at.ensures,
)

pub returns : goal.returns
returns c =
    let done : c.load.i ≡ 16 = omega arith in
    sym (take_all 16 c.load.words (omega arith)) ∙ rw done at c.load.invariant.1
