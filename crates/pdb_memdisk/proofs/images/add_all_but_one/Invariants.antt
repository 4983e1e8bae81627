use Rattle.std.proofs.Common.{◌≡◌, ◌++◌, map, drop}
use Rattle.pdb_memdisk.specs.Contents.{image_of}
use Rattle.pdb_memdisk.specs.Images.{image_after, all_but_one}
use Rattle.pdb_memdisk.specs.inner.Steps.{placed_all, seen_in}
use Rattle.pdb_memdisk.proofs.images.add_all_but_one.Given as goal

abbrev pub invariant-loop-n : goal.invariant-loop-n
invariant-loop-n l = seen_in l.sets.items ++ map (image_after (image_of l.files)) (all_but_one (placed_all (drop l.n l.changes)))
    ≡ seen_in l.fn.sets.items ++ map (image_after (image_of l.kept)) (all_but_one (placed_all l.changes))
