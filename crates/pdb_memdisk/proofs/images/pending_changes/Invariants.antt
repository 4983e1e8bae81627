use Rattle.std.proofs.Common.{◌≡◌, ◌++◌, drop}
use Rattle.pdb_memdisk.specs.Images.{pending}
use Rattle.pdb_memdisk.specs.inner.Steps.{placed_all}
use Rattle.pdb_memdisk.proofs.images.pending_changes.Given as goal

abbrev pub invariant-loop-n : goal.invariant-loop-n
invariant-loop-n l = placed_all l.changes.items ++ pending (drop l.n l.calls) ≡ pending l.calls
