use Rattle.std.proofs.Common.{rules, ◌≡◌, ◌++◌, length, take, drop, ap, ◌∙◌, arith}
use Rattle.std.proofs.lemmas.Grind.{common_steps}
use Rattle.pdb_disk.specs.Files.{FileBytes, done}
use Rattle.pdb_disk.specs.Files.{Step as step}
use Rattle.pdb_memdisk.specs.Contents.{content_of}
use Rattle.pdb_memdisk.proofs.Bytes.{same_content}
use Rattle.pdb_memdisk.proofs.contents.FileBytes.write.Goals as goal

pub returns-clause-ok : goal.returns-clause-ok
returns-clause-ok c =
    let s = step.Write c.args.at c.args.bytes.now in
    let e : take c.self.inside.bytes.len (c.overwrite.new.bytes ++ drop (length c.overwrite.new.bytes) c.self.inside.bytes.items) ≡ c.overwrite.new.bytes = grind (arith, common_steps) in
    let was : content_of c.as_mut_slice.result.now ≡ content_of c.args.self.now = search rules in
    ap content_of e ∙ same_content (content_of c.overwrite.new.bytes) (done (content_of c.as_mut_slice.result.now) s) c.overwrite.ensures
    ∙ ap (λ (x : FileBytes). done x s) was
