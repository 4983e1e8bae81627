use Rattle.std.proofs.Common.{◌*◌, length, inl, ap, arith}
use Rattle.pdb_disk.proofs.Calls.{one_call}
use Rattle.pdb_recover.specs.Recovering.{IsLaying}
use Rattle.pdb_recover.proofs.CellSizes.{cell_low, cell_short}
use Rattle.pdb_recover.proofs.Laying.{may_laying}
use Rattle.pdb_recover.proofs.Written.{call_written}
use Rattle.pdb_recover.proofs.lay.write_cell.Goals as goal

pub overflow_mul-at : goal.overflow_mul-at
overflow_mul-at g c =
    let low = cell_low c.args.put.now.name.file (length c.args.put.now.bytes) c.args.put.now.name.index c.requires.whole.0 c.requires.whole.1 in
    let len = ap (λ n. c.args.put.now.name.index * n) c.len.ensures in
    omega (arith, low, len)

pub write_at-requires : goal.write_at-requires
write_at-requires g c =
    let low = cell_low c.args.put.now.name.file (length c.args.put.now.bytes) c.args.put.now.name.index c.requires.whole.0 c.requires.whole.1 in
    let short = cell_short c.args.put.now.name.file (length c.args.put.now.bytes) c.requires.whole.0 in
    let len = ap (λ n. c.args.put.now.name.index * n) c.len.ensures in
    let bytes = ap length c.as_slice.ensures in
    omega (arith, low, short, len, bytes)

pub returns-in-Ok-clause-any_moment : goal.returns-in-Ok-clause-any_moment
returns-in-Ok-clause-any_moment g c row gate taken puts told covers has is =
    one_call _ _ _ _ (λ fs. IsLaying fs row gate taken) c.write_at.ensures.time is
    (may_laying _ _ row gate taken puts c.args.put.now _ _ c.len.ensures c.as_slice.ensures c.requires.whole.0 covers has is (inl (c.in-Ok.ensures.begun told)))

pub returns-in-Ok-clause-written : goal.returns-in-Ok-clause-written
returns-in-Ok-clause-written g c told =
    call_written _ _ c.args.put.now _ _ c.len.ensures c.as_slice.ensures c.requires.whole.0 (c.in-Ok.ensures.begun told) (c.in-Ok.ensures.written told)

pub returns-in-Err-clause-any_moment : goal.returns-in-Err-clause-any_moment
returns-in-Err-clause-any_moment g c row gate taken puts told covers has is =
    one_call _ _ _ _ (λ fs. IsLaying fs row gate taken) c.write_at.ensures.time is
    (may_laying _ _ row gate taken puts c.args.put.now _ _ c.len.ensures c.as_slice.ensures c.requires.whole.0 covers has is (c.in-Err.ensures.failed told))
