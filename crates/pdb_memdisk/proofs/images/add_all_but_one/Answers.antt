use Rattle.std.proofs.Common.{rules, ◌≡◌, ◌+◌, List, [], ◌∷◌, ◌++◌, map, length, take, drop, ◌-◌, ◌≤◌, length-drop, arith, ap, sym, ◌∙◌}
use Rattle.std.proofs.lemmas.List.{map-append, take_all}
use Rattle.pdb_disk.specs.Files.{Image}
use Rattle.pdb_memdisk.specs.Contents.{image_of, changed}
use Rattle.pdb_memdisk.specs.Record.{step_of}
use Rattle.pdb_memdisk.specs.Images.{Placed, image_after, all_but_one}
use Rattle.pdb_memdisk.specs.inner.Steps.{placed_all, seen_in}
use Rattle.pdb_memdisk.proofs.Laid.{drop_next, but_one_more}
use Rattle.pdb_memdisk.proofs.images.add_all_but_one.Goals as goal

pub loop-n-preserved : goal.loop-n-preserved
loop-n-preserved c =
    let cur = c.index-changes-n.result in
    let p : Placed = (cur.0, step_of cur.1.now) in
    let rest = drop (c.loop-n.n + 1) c.args.changes.now in
    let x = image_of c.loop-n.files in
    let y = image_of c.apply.new.self in
    let next : drop c.loop-n.n c.args.changes.now ≡ cur ∷ rest = drop_next c.args.changes.now c.loop-n.n cur (search rules) c.index-changes-n.is in
    let made : y ≡ changed x p.0 p.1 = search rules in
    let seen = seen_in c.loop-n.sets.items in
    let items : c.push.new.self.items ≡ c.loop-n.sets.items ++ c.apply_all.new.files ∷ [] = search rules in
    let others : image_of c.apply_all.new.files ≡ image_after x (placed_all rest) =
    let raw : image_of c.apply_all.new.files ≡ image_after x (placed_all (take (length c.args.changes.now - (c.loop-n.n + 1)) rest)) = search rules in
    let low : length rest ≤ length c.args.changes.now - (c.loop-n.n + 1) = let e = length-drop (c.loop-n.n + 1) c.args.changes.now in omega (arith, e) in
    raw ∙ ap (λ ds. image_after x (placed_all ds)) (take_all (length c.args.changes.now - (c.loop-n.n + 1)) rest low) in
    let pushed : seen_in c.push.new.self.items ≡ seen ++ image_after x (placed_all rest) ∷ [] =
    ap seen_in items ∙ map-append image_of c.loop-n.sets.items (c.apply_all.new.files ∷ []) ∙ ap (λ (z : Image). seen ++ z ∷ []) others in
    ap (λ (s : List Image). s ++ map (image_after y) (all_but_one (placed_all rest))) pushed
    ∙ but_one_more seen x y p (placed_all rest) made
    ∙ ap (λ ds. seen ++ map (image_after x) (all_but_one (placed_all ds))) (sym next)
    ∙ c.loop-n.invariant
