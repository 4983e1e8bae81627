use Rattle.std.proofs.Common.{refl, sym, ◌∙◌}
use Rattle.pdb_disk.proofs.Calls.{at_end, joined, no_call}
use Rattle.pdb_recover.specs.Recovering.{IsLaying}
use Rattle.pdb_recover.proofs.Written.{all_written, next_written, none_written}
use Rattle.pdb_recover.proofs.lay.write_cells.Goals as goal

pub loop-put-init : goal.loop-put-init
loop-put-init g c = record {
  moments = λ row gate taken told covers is. no_call _ _ (λ fs. IsLaying fs row gate taken) is;
  written = λ told. none_written _;
  told = λ told. told;
  counted = refl;
}

pub returns-in_err-write_cell-clause-any_moment : goal.returns-in_err-write_cell-clause-any_moment
returns-in_err-write_cell-clause-any_moment g c row gate taken told covers is =
    let before = c.loop-put.invariant.moments row gate taken told covers is in
    joined _ _ _ _ _ _ _ before
    (c.write_cell.ensures.any_moment row gate taken c.args.puts.now (c.loop-put.invariant.told told) covers
    (c.loop-put.put-index, c.put-item.result, c.loop-put-test.true, sym c.put-item.is, refl) (at_end _ _ _ _ _ before))

pub returns-in_err-write_cell-clause-told : goal.returns-in_err-write_cell-clause-told
returns-in_err-write_cell-clause-told g c told = c.write_cell.ensures.told (c.loop-put.invariant.told told)

pub loop-put-preserved : goal.loop-put-preserved
loop-put-preserved g c = record {
  moments = λ row gate taken told covers is.
      let before = c.loop-put.invariant.moments row gate taken told covers is in
      joined _ _ _ _ _ _ _ before
      (c.write_cell.ensures.any_moment row gate taken c.args.puts.now (c.loop-put.invariant.told told) covers
      (c.loop-put.put-index, c.put-item.result, c.loop-put-test.true, sym c.put-item.is, refl) (at_end _ _ _ _ _ before));
  written = λ told. next_written _ _ c.put-item.result _ _ _ c.loop-put-test.true c.put-item.is (c.loop-put.invariant.written told)
      (c.in_ok-write_cell.ensures.written (c.loop-put.invariant.told told));
  told = λ told. c.write_cell.ensures.told (c.loop-put.invariant.told told);
  counted = c.in_ok-write_cell.ensures.counted ∙ c.loop-put.invariant.counted;
}

pub returns-clause-written : goal.returns-clause-written
returns-clause-written g c told = all_written _ _ _ _ c.loop-put-test.false (c.loop-put.invariant.written told)
