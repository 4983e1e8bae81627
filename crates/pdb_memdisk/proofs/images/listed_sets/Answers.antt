use Rattle.std.proofs.Common.{rules, ◌≡◌, List, ◌++◌, map, append_assoc, ap, ◌∙◌}
use Rattle.pdb_disk.specs.Files.{Image}
use Rattle.pdb_memdisk.specs.Contents.{image_of}
use Rattle.pdb_memdisk.specs.Images.{image_after, first_n, first_n_and_half, all_but_one}
use Rattle.pdb_memdisk.specs.inner.Steps.{placed_all, seen_in}
use Rattle.pdb_memdisk.proofs.images.listed_sets.Goals as goal

pub returns : goal.returns
returns c =
    let x = image_of c.args.kept.now in
    let ps = placed_all c.args.changes.now in
    let first : seen_in c.add_first_n.new.sets.items ≡ map (image_after x) (first_n ps) = search rules in
    let half : seen_in c.add_first_n_and_half.new.sets.items ≡ seen_in c.add_first_n.new.sets.items ++ map (image_after x) (first_n_and_half ps) = search rules in
    let others : seen_in c.add_all_but_one.new.sets.items ≡ seen_in c.add_first_n_and_half.new.sets.items ++ map (image_after x) (all_but_one ps) = search rules in
    others ∙ ap (λ (ys : List Image). ys ++ map (image_after x) (all_but_one ps)) (half ∙ ap (λ (ys : List Image). ys ++ map (image_after x) (first_n_and_half ps)) first)
    ∙ append_assoc (map (image_after x) (first_n ps)) (map (image_after x) (first_n_and_half ps)) (map (image_after x) (all_but_one ps))
