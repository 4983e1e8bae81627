use Rattle.std.proofs.Common.{rules, ◌≡◌, ◌+◌, ◌++◌, ◌∷◌, [], ap, ◌∙◌, vec_len}
use Rattle.pdb_memdisk.specs.Contents.{image_of}
use Rattle.pdb_memdisk.proofs.Bytes.{image_more}
use Rattle.pdb_memdisk.proofs.contents.FileSet.reach.Goals as goal

pub loop-preserved : goal.loop-preserved
loop-preserved c =
    let e : c.push.new.self.items ≡ c.loop.self-inside.files.items ++ [] ∷ [] = search rules in
    let n : vec_len c.push.new.self ≡ c.loop.counter + 1 = search rules in
    (ap image_of e ∙ image_more c.loop.self-inside.files.items ∙ c.loop.invariant.0, n)
