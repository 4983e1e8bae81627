use Rattle.std.proofs.Common.{rules, ◌≡◌, [], List, drop, ap, sym, ◌∙◌}
use Rattle.pdb_memdisk.specs.Contents.{image_of}
use Rattle.pdb_memdisk.specs.declared.record.Call.{Call}
use Rattle.pdb_memdisk.proofs.Laid.{drop_end}
use Rattle.pdb_memdisk.proofs.Kept.{kept_after, all_kept}
use Rattle.pdb_memdisk.proofs.images.kept_files.Goals as goal

pub returns : goal.returns
returns c =
    let none : drop c.loop-n.n c.args.calls.now ≡ [] = drop_end c.args.calls.now c.loop-n.n (search rules) in
    ap (λ (xs : List Call). kept_after (image_of c.loop-n.files) xs) (sym none) ∙ c.loop-n.invariant ∙ all_kept (image_of c.args.base.now) c.args.calls.now
