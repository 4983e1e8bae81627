use Rattle.std.proofs.Common.{◌≡◌, map}
use Rattle.std.specs.List.{All}
use Rattle.pdb_memdisk.specs.inner.Steps.{seen_in}
use Rattle.pdb_memdisk.specs.Memory.{IsFresh, image_now}
use Rattle.pdb_memdisk.proofs.disks.Disks.holding.Given as goal

abbrev pub invariant-loop-files : goal.invariant-loop-files
invariant-loop-files l = All IsFresh l.items.items × (map image_now l.items.items ≡ seen_in l.yielded)
