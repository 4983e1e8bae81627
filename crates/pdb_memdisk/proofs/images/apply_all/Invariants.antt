use Rattle.std.proofs.Common.{◌≡◌, drop}
use Rattle.pdb_memdisk.specs.Contents.{image_of}
use Rattle.pdb_memdisk.specs.Images.{image_after}
use Rattle.pdb_memdisk.specs.inner.Steps.{placed_all}
use Rattle.pdb_memdisk.proofs.images.apply_all.Given as goal

abbrev pub invariant-loop-change : goal.invariant-loop-change
invariant-loop-change l = image_after (image_of l.files) (placed_all (drop l.change-index l.changes)) ≡ image_after (image_of l.fn.files) (placed_all l.changes)
