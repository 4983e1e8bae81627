use Rattle.std.proofs.Common.{◌*◌, length, inl, ap, arith}
use Rattle.pdb_log.proofs.Times.{time_of_call}
use Rattle.pdb_redo.proofs.CellSizes.{cell_file, cell_low, cell_short}
use Rattle.pdb_redo.proofs.WriteLoop.{alone, call_done, cell_at, may_beside}
use Rattle.pdb_redo.proofs.redo_log.write_put.Goals as goal

pub overflow_mul-at : goal.overflow_mul-at
overflow_mul-at g c =
    let low = cell_low c.args.put.now.name.file (length c.args.put.now.bytes) c.args.put.now.name.index c.requires.0 c.requires.1 in
    let len = ap (λ n. c.args.put.now.name.index * n) c.len.ensures in
    omega (arith, low, len)

pub write_at-requires-clause-within : goal.write_at-requires-clause-within
write_at-requires-clause-within g c =
    let low = cell_low c.args.put.now.name.file (length c.args.put.now.bytes) c.args.put.now.name.index c.requires.0 c.requires.1 in
    let short = cell_short c.args.put.now.name.file (length c.args.put.now.bytes) c.requires.0 in
    let len = ap (λ n. c.args.put.now.name.index * n) c.len.ensures in
    let bytes = ap length c.as_slice.ensures in
    omega (arith, low, short, len, bytes)

pub bounds-written-put : goal.bounds-written-put
bounds-written-put g c = (cell_file c.args.put.now.name.file (length c.args.put.now.bytes) c.requires.0).1

pub returns-in-Ok-clause-writes : goal.returns-in-Ok-clause-writes
returns-in-Ok-clause-writes g c = record {
  rest = c.write_at.ensures.rest;
  stands = λ l rows f r is has sub. c.write_at.ensures.stands l rows f r c.args.put.now is has (sub c.args.put.now (alone c.args.put.now)) (cell_at c.args.put.now _ _ c.len.ensures c.as_slice.ensures);
  moments = λ l rows f r is has sub. c.write_at.ensures.any_moment l rows f r c.args.put.now is has (sub c.args.put.now (alone c.args.put.now)) (cell_at c.args.put.now _ _ c.len.ensures c.as_slice.ensures);
  told = c.write_at.ensures.told;
  goes_on = time_of_call g.D.Disk.clock g.D.Disk.past c.args.log.now.disk c.write_at.new.self.disk c.write_at.ensures.time;
  beside = λ told. may_beside g.D.Disk.tells g.D.Disk.clock g.D.Disk.past c.args.log.now c.write_at.new.self c.args.put.now _ _ c.len.ensures c.as_slice.ensures c.requires.0
      (inl (c.in-Ok.ensures.begun told));
}

pub returns-in-Ok-clause-done : goal.returns-in-Ok-clause-done
returns-in-Ok-clause-done g c told =
    call_done g.D.Disk.tells g.D.Disk.clock g.D.Disk.past c.args.log.now c.write_at.new.self c.args.put.now _ _ c.len.ensures c.as_slice.ensures c.requires.0
    (c.in-Ok.ensures.begun told) (c.in-Ok.ensures.written told)

pub returns-in-Err-clause-writes : goal.returns-in-Err-clause-writes
returns-in-Err-clause-writes g c = record {
  rest = c.write_at.ensures.rest;
  stands = λ l rows f r is has sub. c.write_at.ensures.stands l rows f r c.args.put.now is has (sub c.args.put.now (alone c.args.put.now)) (cell_at c.args.put.now _ _ c.len.ensures c.as_slice.ensures);
  moments = λ l rows f r is has sub. c.write_at.ensures.any_moment l rows f r c.args.put.now is has (sub c.args.put.now (alone c.args.put.now)) (cell_at c.args.put.now _ _ c.len.ensures c.as_slice.ensures);
  told = c.write_at.ensures.told;
  goes_on = time_of_call g.D.Disk.clock g.D.Disk.past c.args.log.now.disk c.write_at.new.self.disk c.write_at.ensures.time;
  beside = λ told. may_beside g.D.Disk.tells g.D.Disk.clock g.D.Disk.past c.args.log.now c.write_at.new.self c.args.put.now _ _ c.len.ensures c.as_slice.ensures c.requires.0
      (c.in-Err.ensures.failed told);
}
