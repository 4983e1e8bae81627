use Rattle.std.proofs.Common.{rules, ◌≡◌, ◌+◌, List, [], ◌∷◌, ◌++◌, map, drop, ap, sym, ◌∙◌}
use Rattle.pdb_disk.specs.Files.{Image}
use Rattle.pdb_memdisk.specs.Contents.{image_of, changed}
use Rattle.pdb_memdisk.specs.Record.{step_of}
use Rattle.pdb_memdisk.specs.Images.{Placed, image_after, half, first_n_and_half}
use Rattle.pdb_memdisk.specs.inner.Steps.{placed_all, seen_in}
use Rattle.pdb_memdisk.proofs.Laid.{drop_next, half_more}
use Rattle.pdb_memdisk.proofs.images.add_first_n_and_half.Goals as goal

pub loop-change-preserved : goal.loop-change-preserved
loop-change-preserved c =
    let cur = c.change-item.result in
    let p : Placed = (cur.0, step_of cur.1.now) in
    let rest = drop (c.loop-change.change-index + 1) c.args.changes.now in
    let x = image_of c.loop-change.files in
    let y = image_of c.apply.new.self in
    let next : drop c.loop-change.change-index c.args.changes.now ≡ cur ∷ rest = drop_next c.args.changes.now c.loop-change.change-index cur (search rules) c.change-item.is in
    let made : y ≡ changed x p.0 p.1 = search rules in
    let seen = seen_in c.loop-change.sets.items in
    let pushed : seen_in c.add_half.new.sets.items ≡ seen ++ map (image_after x) (map (λ q. q ∷ []) (half p)) = search rules in
    ap (λ (s : List Image). s ++ map (image_after y) (first_n_and_half (placed_all rest))) pushed
    ∙ half_more seen x y p (placed_all rest) made
    ∙ ap (λ ds. seen ++ map (image_after x) (first_n_and_half (placed_all ds))) (sym next)
    ∙ c.loop-change.invariant
