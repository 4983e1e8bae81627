use Rattle.std.proofs.Common.{rules, ◌≡◌, List, map, ap, sym, subst, ◌∙◌}
use Rattle.std.specs.List.{All}
use Rattle.std.proofs.lemmas.Result.{IfOk-weaker}
use Rattle.pdb_disk.specs.Files.{Image, IsImage}
use Rattle.pdb_memdisk.specs.Contents.{image_of, all_settled}
use Rattle.pdb_memdisk.specs.Record.{replayed}
use Rattle.pdb_memdisk.specs.Images.{Placed, listed, keeps_of}
use Rattle.pdb_memdisk.specs.inner.Steps.{placed_all, seen_in}
use Rattle.pdb_memdisk.specs.Memory.{now_of, image_now, pending_of}
use Rattle.pdb_memdisk.proofs.Now.{now_all, pending_now}
use Rattle.pdb_memdisk.proofs.Members.{Each, each_all, listed_members}
use Rattle.pdb_memdisk.proofs.memory.MemDisk.images.Goals as goal

pub returns-clause-listed : goal.returns-clause-listed
returns-clause-listed c =
    let d = c.args.self.now in
    let kept : image_of c.in_ok-kept.kept ≡ keeps_of (replayed (all_settled (image_of d.base)) d.calls.items) = search rules in
    let steps : placed_all c.in_ok-changes.changes.items ≡ pending_of d = search rules in
    let sets : seen_in c.in_ok-sets.sets.items ≡ listed (image_of c.in_ok-kept.kept) (placed_all c.in_ok-changes.changes.items) = search rules in
    let all : seen_in c.in_ok-sets.sets.items ≡ listed (keeps_of (now_of d)) (pending_of d) =
    sets ∙ ap (λ (ps : List Placed). listed (image_of c.in_ok-kept.kept) ps) steps
    ∙ ap (λ (x : Image). listed x (pending_of d)) (kept ∙ sym (ap keeps_of (now_all d))) in
    IfOk-weaker c.holding.result (λ ds. map image_now ds ≡ seen_in c.in_ok-sets.sets.items) (λ ds. map image_now ds ≡ listed (keeps_of (now_of d)) (pending_of d)) (λ ds e. e ∙ all) c.holding.ensures.seen

pub returns-clause-members : goal.returns-clause-members
returns-clause-members c =
    let d = c.args.self.now in
    IfOk-weaker c.holding.result (λ ds. map image_now ds ≡ listed (keeps_of (now_of d)) (pending_of d)) (λ ds. All (λ e. IsImage (now_of d) (image_now e)) ds)
    (λ ds e. each_all (IsImage (now_of d)) image_now ds (subst (λ (xs : List Image). Each (IsImage (now_of d)) xs) (sym e) (listed_members (now_of d) (pending_of d) (pending_now d))))
    (returns-clause-listed c)
