use Rattle.std.proofs.Common.{ℕ, ap, ◌∙◌, []}
use Rattle.sdb_blake2.specs.Blake2b.{H, digest}
use Rattle.sdb_blake2.proofs.hasher.hash256.Goals as goal

pub returns : goal.returns
unfolding H
returns c = c.finalize.ensures c.args.bytes.now (c.update.ensures.holds [] c.new-hasher.ensures.holds)
    ∙ ap (λ (n : ℕ). digest n c.args.bytes.now) (c.update.ensures.digest_len ∙ c.new-hasher.ensures.digest_len)
