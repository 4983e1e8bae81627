use Rattle.std.proofs.Common.{◌∙◌, refl, arith}
use Rattle.pdb_redo.proofs.CreatFiles.{empty_next, never_next, ungated_at_first}
use Rattle.pdb_redo.proofs.CreatMoments.{joined_yet}
use Rattle.pdb_redo.proofs.creating.empty_files.Goals as goal

pub loop-file-init : goal.loop-file-init
loop-file-init g c = record {
  later = omega arith;
  told = λ told. told;
  counted = refl;
  ungated = λ told never. ungated_at_first g.D.Disk.clock g.D.Disk.past c.args.disk.now never;
  empty = λ told j stored low. absurd (omega (arith, low));
}

pub returns-in_err-empty_store_file-clause-any_moment : goal.returns-in_err-empty_store_file-clause-any_moment
returns-in_err-empty_store_file-clause-any_moment g c told never =
    let before = c.loop-file.invariant.ungated told never in
    joined_yet g.D.Disk.clock g.D.Disk.past c.args.disk.now c.loop-file.disk c.empty_store_file.new.disk before.moments
    (c.empty_store_file.ensures.any_moment (c.loop-file.invariant.told told) before.never)

pub returns-in_err-empty_store_file-clause-told : goal.returns-in_err-empty_store_file-clause-told
returns-in_err-empty_store_file-clause-told g c told = c.empty_store_file.ensures.told (c.loop-file.invariant.told told)

pub loop-file-preserved : goal.loop-file-preserved
loop-file-preserved g c = record {
  later = let a = c.loop-file.invariant.later in let b = c.empty_store_file.ensures.later in omega (arith, a, b);
  told = λ told. c.empty_store_file.ensures.told (c.loop-file.invariant.told told);
  counted = c.in_ok-empty_store_file.ensures.counted ∙ c.loop-file.invariant.counted;
  ungated = λ told never.
      let before = c.loop-file.invariant.ungated told never in
      record {
        moments = joined_yet g.D.Disk.clock g.D.Disk.past c.args.disk.now c.loop-file.disk c.empty_store_file.new.disk before.moments
            (c.empty_store_file.ensures.any_moment (c.loop-file.invariant.told told) before.never);
        never = never_next c.loop-file.file (g.D.Disk.past c.loop-file.disk (g.D.Disk.clock c.loop-file.disk)) (g.D.Disk.past c.empty_store_file.new.disk (g.D.Disk.clock c.empty_store_file.new.disk))
            (c.in_ok-empty_store_file.ensures.emptied (c.loop-file.invariant.told told)) before.never;
      };
  empty = λ told. empty_next c.loop-file.file (g.D.Disk.past c.loop-file.disk (g.D.Disk.clock c.loop-file.disk)) (g.D.Disk.past c.empty_store_file.new.disk (g.D.Disk.clock c.empty_store_file.new.disk))
      (c.loop-file.invariant.empty told) (c.in_ok-empty_store_file.ensures.emptied (c.loop-file.invariant.told told));
}

pub returns-clause-any_moment : goal.returns-clause-any_moment
returns-clause-any_moment g c told never = let all = c.loop-file.invariant.ungated told never in all.moments

pub returns-clause-emptied : goal.returns-clause-emptied
returns-clause-emptied g c told j stored low = c.loop-file.invariant.empty told j stored (let end = c.loop-file-test.false in omega (arith, low, end))

pub returns-clause-told : goal.returns-clause-told
returns-clause-told g c told = c.loop-file.invariant.told told

pub returns-clause-counted : goal.returns-clause-counted
returns-clause-counted g c = c.loop-file.invariant.counted

pub returns-in_err-empty_store_file-clause-later : goal.returns-in_err-empty_store_file-clause-later
returns-in_err-empty_store_file-clause-later g c =
    let a = c.loop-file.invariant.later in let b = c.empty_store_file.ensures.later in omega (arith, a, b)

pub returns-clause-later : goal.returns-clause-later
returns-clause-later g c = c.loop-file.invariant.later
