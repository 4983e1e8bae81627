use Rattle.std.proofs.Common.{◌<◌, ℕ}
use Rattle.pdb_value.specs.inner.HeadCells.{KeepsEnds}
use Rattle.pdb_value.proofs.heads.are_ends.Given as goal

abbrev pub invariant-loop-tier : goal.invariant-loop-tier
invariant-loop-tier l = (u : ℕ) → u < l.tier → KeepsEnds l.cell u
