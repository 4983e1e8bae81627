use Rattle.std.proofs.Common.{length, arith, ap}
use Rattle.std.proofs.lemmas.Grind.{common_steps}
use Rattle.sdb_serve.proofs.Keeping.{no_levels}
use Rattle.sdb_serve.proofs.blocks.BlockMap.is_empty.Goals as goal

pub returns : goal.returns
returns g c blocks represents =
    let levels = c.args.self.now.levels in
    let long = levels.ok.0 in (
      (λ empty. no_levels c.args.self.now blocks represents (grind (arith, common_steps))),
      (λ none. let short = ap length (represents.none none) in grind (arith, common_steps)),
    )
