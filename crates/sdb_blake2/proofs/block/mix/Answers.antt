use Rattle.std.proofs.Common.{ℕ, List, ap, ◌∙◌}
use Rattle.sdb_blake2.specs.Blake2b.{half_mixed, mixed}
use Rattle.sdb_blake2.proofs.block.mix.Goals as goal

pub returns : goal.returns
unfolding mixed
returns c = c.half_mix-2.ensures
    ∙ ap (λ (v : List ℕ). half_mixed v c.args.a c.args.b c.args.c c.args.d c.args.y 16 63) c.half_mix.ensures
