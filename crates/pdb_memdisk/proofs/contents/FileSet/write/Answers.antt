use Rattle.std.proofs.Common.{rules, ◌≡◌, ◌<◌, List, ℕ, [], length, get_or, ap, ◌∙◌}
use Rattle.std.proofs.lemmas.Result.{on_ok_weaker}
use Rattle.std.proofs.lemmas.List.{get_or_default}
use Rattle.pdb_disk.specs.Files.{Image, done}
use Rattle.pdb_disk.specs.Files.{Step as step}
use Rattle.pdb_memdisk.specs.Contents.{content_of, image_of, changed}
use Rattle.pdb_memdisk.proofs.Bytes.{image_set}
use Rattle.pdb_memdisk.proofs.contents.FileSet.write.Goals as goal

pub returns-clause-ok : goal.returns-clause-ok
returns-clause-ok c =
    let s = step.Write c.args.at c.args.bytes.now in
    let items = c.self.inside.files.items in
    let low : c.args.file < length items = search rules in
    let here : c.index_mut.result.now ≡ get_or items c.args.file [] = c.index_mut.ensures.value ∙ get_or_default items c.args.file c.index_mut.result.now [] low in
    let same : image_of items ≡ image_of c.args.self.now = ap image_of c.self.view_is ∙ c.reach.ensures.same in
    on_ok_weaker c.write.result
    (λ e. image_set items c.args.file c.write.new.self s low (e ∙ ap (λ (x : List ℕ). done (content_of x) s) here)
    ∙ ap (λ (x : Image). changed x c.args.file s) same)
    c.write.ensures.ok
