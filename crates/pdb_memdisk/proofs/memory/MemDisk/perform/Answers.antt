use Rattle.std.proofs.Common.{rules, ◌≡◌, ◌+◌, true, false, not, List, [], ◌∷◌, ◌++◌, if◌then◌else◌, inl, inr, refl, sym, ◌∙◌, ap, subst}
use Rattle.pdb_disk.specs.Files.{reads_of}
use Rattle.pdb_memdisk.specs.Contents.{image_of, all_settled}
use Rattle.pdb_memdisk.specs.Record.{replayed}
use Rattle.pdb_memdisk.specs.inner.Steps.{applied}
use Rattle.pdb_memdisk.specs.declared.record.Call.{Call}
use Rattle.pdb_memdisk.proofs.Pasts.{plays_more, plays_same, stamped_more, tied_more, Stamped}
use Rattle.pdb_memdisk.proofs.memory.MemDisk.perform.Goals as goal

pub returns-in_default-clause-failed : goal.returns-in_default-clause-failed
returns-in_default-clause-failed c f =
    let d = c.args.self.now in
    inr (plays_same (all_settled (image_of d.base)) d.clock d.calls.items d.calls.items refl d.stamped)

pub returns-then-is_err-clause-failed : goal.returns-then-is_err-clause-failed
returns-then-is_err-clause-failed c f =
    let d = c.args.self.now in
    inr (plays_same (all_settled (image_of d.base)) d.clock d.calls.items c.keep.new.calls.items (search rules) d.stamped)

pub invariant_of-self-then-fails : goal.invariant_of-self-then-fails
invariant_of-self-then-fails c =
    let d = c.args.self.now in
    let call : Call = record { stamp = d.clock + 1; file = c.args.file; done = not c.fails_next-fails.result; action = c.in-Ok.action } in
    let items : c.keep.new.calls.items ≡ d.calls.items ++ call ∷ [] = search rules in
    let files : image_of c.keep.new.files ≡ (if call.done then applied (image_of d.files) call.file call.action else image_of d.files) = search rules in
    let start = all_settled (image_of d.base) in
    record {
      stamped = subst (λ (xs : List Call). Stamped (d.clock + 1) xs) (sym items) (stamped_more d.clock d.calls.items call d.stamped refl);
      tied = tied_more start (image_of d.files) (image_of c.keep.new.files) d.calls.items call d.tied files
          ∙ ap (λ (xs : List Call). reads_of (replayed start xs)) (sym items);
    }

pub invariant_of-self-else-fails : goal.invariant_of-self-else-fails
invariant_of-self-else-fails c =
    let d = c.args.self.now in
    let call : Call = record { stamp = d.clock + 1; file = c.args.file; done = not c.fails_next-fails.result; action = c.in-Ok.action } in
    let items : c.keep.new.calls.items ≡ d.calls.items ++ call ∷ [] = search rules in
    let files : image_of c.keep.new.files ≡ (if call.done then applied (image_of d.files) call.file call.action else image_of d.files) = search rules in
    let start = all_settled (image_of d.base) in
    record {
      stamped = subst (λ (xs : List Call). Stamped (d.clock + 1) xs) (sym items) (stamped_more d.clock d.calls.items call d.stamped refl);
      tied = tied_more start (image_of d.files) (image_of c.keep.new.files) d.calls.items call d.tied files
          ∙ ap (λ (xs : List Call). reads_of (replayed start xs)) (sym items);
    }

pub returns-then-fails-clause-failed : goal.returns-then-fails-clause-failed
returns-then-fails-clause-failed c f =
    let d = c.args.self.now in
    let call : Call = record { stamp = d.clock + 1; file = c.args.file; done = not c.fails_next-fails.result; action = c.in-Ok.action } in
    inl (c.in-Ok.action, search rules, plays_more (all_settled (image_of d.base)) d.clock d.calls.items c.keep.new.calls.items call false (search rules) (search rules) d.stamped refl)

pub returns-then-fails-clause-pending : goal.returns-then-fails-clause-pending
returns-then-fails-clause-pending c f complete low =
    let d = c.args.self.now in
    let call : Call = record { stamp = d.clock + 1; file = c.args.file; done = not c.fails_next-fails.result; action = c.in-Ok.action } in
    (c.in-Ok.action, search rules, plays_more (all_settled (image_of d.base)) d.clock d.calls.items c.keep.new.calls.items call false (search rules) (search rules) d.stamped refl)

pub returns-clause-done : goal.returns-clause-done
returns-clause-done c t =
    let d = c.args.self.now in
    let call : Call = record { stamp = d.clock + 1; file = c.args.file; done = not c.fails_next-fails.result; action = c.in-Ok.action } in
    (c.in-Ok.action, search rules, plays_more (all_settled (image_of d.base)) d.clock d.calls.items c.keep.new.calls.items call true (search rules) (search rules) d.stamped refl)
