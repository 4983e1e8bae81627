use Rattle.std.proofs.Common.{◌≡◌, drop}
use Rattle.pdb_memdisk.specs.Contents.{image_of}
use Rattle.pdb_memdisk.proofs.Kept.{kept_after}
use Rattle.pdb_memdisk.proofs.images.kept_files.Given as goal

abbrev pub invariant-loop-n : goal.invariant-loop-n
invariant-loop-n l = kept_after (image_of l.files) (drop l.n l.calls) ≡ kept_after (image_of l.base) l.calls
