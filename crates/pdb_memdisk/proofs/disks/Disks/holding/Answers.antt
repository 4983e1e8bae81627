use Rattle.std.proofs.Common.{rules, ◌≡◌, List, [], ◌∷◌, ◌++◌, map, ap, sym, subst, ◌∙◌}
use Rattle.std.specs.List.{All}
use Rattle.std.proofs.lemmas.List.{map-append}
use Rattle.std.proofs.lemmas.List.Elements.{All-push}
use Rattle.pdb_disk.specs.Files.{Image}
use Rattle.pdb_memdisk.specs.Contents.{image_of}
use Rattle.pdb_memdisk.specs.inner.Steps.{seen_in}
use Rattle.pdb_memdisk.specs.Memory.{IsFresh, image_now}
use Rattle.pdb_memdisk.specs.declared.memory.MemDisk.{MemDisk}
use Rattle.pdb_memdisk.proofs.disks.Disks.holding.Goals as goal

pub loop-files-preserved : goal.loop-files-preserved
loop-files-preserved c =
    let d = c.in_ok-holding.field-0 in
    let before = c.loop-files.items.items in
    let items : c.push.new.self.items ≡ before ++ d ∷ [] = search rules in
    let fresh : IsFresh d = search rules in
    let seen : image_now d ≡ image_of c.in-Some.files = search rules in (
      subst (λ (ds : List MemDisk). All IsFresh ds) (sym items) (All-push IsFresh before d c.loop-files.invariant.0 fresh),
      ap (λ (ds : List MemDisk). map image_now ds) items ∙ map-append image_now before (d ∷ [])
          ∙ ap (λ (ys : List Image). ys ++ image_now d ∷ []) c.loop-files.invariant.1
          ∙ ap (λ (y : Image). seen_in c.loop-files.yielded ++ y ∷ []) seen
          ∙ sym (map-append image_of c.loop-files.yielded (c.in-Some.files ∷ [])),
    )
