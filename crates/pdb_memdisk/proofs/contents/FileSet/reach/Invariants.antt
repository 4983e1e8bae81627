use Rattle.std.proofs.Common.{◌≡◌, vec_len}
use Rattle.pdb_memdisk.specs.Contents.{image_of}
use Rattle.pdb_memdisk.proofs.contents.FileSet.reach.Given as goal

abbrev pub invariant-loop : goal.invariant-loop
invariant-loop l = (image_of l.self-inside.files.items ≡ image_of l.fn.self) × (vec_len l.self-inside.files ≡ l.counter)
