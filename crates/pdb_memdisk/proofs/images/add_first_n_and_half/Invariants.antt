use Rattle.std.proofs.Common.{◌≡◌, ◌++◌, map, drop}
use Rattle.pdb_memdisk.specs.Contents.{image_of}
use Rattle.pdb_memdisk.specs.Images.{image_after, first_n_and_half}
use Rattle.pdb_memdisk.specs.inner.Steps.{placed_all, seen_in}
use Rattle.pdb_memdisk.proofs.images.add_first_n_and_half.Given as goal

abbrev pub invariant-loop-change : goal.invariant-loop-change
invariant-loop-change l = seen_in l.sets.items ++ map (image_after (image_of l.files)) (first_n_and_half (placed_all (drop l.change-index l.changes)))
    ≡ seen_in l.fn.sets.items ++ map (image_after (image_of l.kept)) (first_n_and_half (placed_all l.changes))
