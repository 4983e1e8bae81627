use Rattle.std.proofs.Common.{refl, inl, ℕ, Vec, Global}
use Rattle.sdb_serve.proofs.Closing.{closes_made, closes_put, for_all_lines}
use Rattle.sdb_serve.proofs.Outputs.{gets_nothing}
use Rattle.sdb_serve.specs.declared.cause.Cause.TheVariants as causes
use Rattle.sdb_serve.proofs.entry.close.Goals as goal

pub returns-in-End-clause-closed : goal.returns-in-End-clause-closed
returns-in-End-clause-closed g c = rw c.in-End.is (causes.End, inl refl, inl (refl, gets_nothing _))

pub returns-in-BadLine-clause-closed : goal.returns-in-BadLine-clause-closed
returns-in-BadLine-clause-closed g c =
    let items = λ (t : Vec ℕ Global). t.items in
    let put = c.put_made.ensures in
    rw c.in-BadLine.is (closes_made items causes.BadLine c.args.lines _ _ _ _ tt c.stop_line.ensures put.put put.memory)

pub returns-in-Source-clause-closed : goal.returns-in-Source-clause-closed
returns-in-Source-clause-closed g c = rw c.in-Source.is (closes_put causes.Source c.args.lines _ _ _ _ refl c.put_last.ensures.put)

pub returns-in-Memory-clause-closed : goal.returns-in-Memory-clause-closed
returns-in-Memory-clause-closed g c =
    rw c.in-Memory.is (closes_put causes.Memory c.args.lines _ _ _ _ refl c.put_last-in-Memory.ensures.put)

pub returns-in-Disk-clause-closed : goal.returns-in-Disk-clause-closed
returns-in-Disk-clause-closed g c = rw c.in-Disk.is (closes_put causes.Disk c.args.lines _ _ _ _ refl c.put_last-in-Disk.ensures.put)

pub returns-in-Occupied-clause-closed : goal.returns-in-Occupied-clause-closed
returns-in-Occupied-clause-closed g c =
    rw c.in-Occupied.is (closes_put causes.Occupied c.args.lines _ _ _ _ refl c.put_last-in-Occupied.ensures.put)

pub returns-in-BadCell-clause-closed : goal.returns-in-BadCell-clause-closed
returns-in-BadCell-clause-closed g c =
    let cause = causes.BadCell c.in-BadCell.file c.in-BadCell.cell in
    let items = λ (t : Vec ℕ Global). t.items in
    let line = for_all_lines items cause c.args.lines _ c.cell_line.ensures in
    let put = c.put_made-in-BadCell.ensures in
    rw c.in-BadCell.is (closes_made items cause c.args.lines _ _ _ _ tt line put.put put.memory)

pub returns-in-BadNode-clause-closed : goal.returns-in-BadNode-clause-closed
returns-in-BadNode-clause-closed g c =
    let cause = causes.BadNode c.in-BadNode.hash in
    let items = λ (t : Vec ℕ Global). t.items in
    let line = for_all_lines items cause c.args.lines _ c.node_line.ensures in
    let put = c.put_made-in-BadNode.ensures in
    rw c.in-BadNode.is (closes_made items cause c.args.lines _ _ _ _ tt line put.put put.memory)

pub returns-in-IndexFull-clause-closed : goal.returns-in-IndexFull-clause-closed
returns-in-IndexFull-clause-closed g c =
    let cause = causes.IndexFull c.in-IndexFull.column c.in-IndexFull.bits c.in-IndexFull.chunk in
    let items = λ (t : Vec ℕ Global). t.items in
    let line = for_all_lines items cause c.args.lines _ c.index_line.ensures in
    let put = c.put_made-in-IndexFull.ensures in
    rw c.in-IndexFull.is (closes_made items cause c.args.lines _ _ _ _ tt line put.put put.memory)

pub returns-in-TierFull-clause-closed : goal.returns-in-TierFull-clause-closed
returns-in-TierFull-clause-closed g c =
    let cause = causes.TierFull c.in-TierFull.column c.in-TierFull.tier in
    let items = λ (t : Vec ℕ Global). t.items in
    let line = for_all_lines items cause c.args.lines _ c.tier_line.ensures in
    let put = c.put_made-in-TierFull.ensures in
    rw c.in-TierFull.is (closes_made items cause c.args.lines _ _ _ _ tt line put.put put.memory)

pub returns-in-NumbersEnd-clause-closed : goal.returns-in-NumbersEnd-clause-closed
returns-in-NumbersEnd-clause-closed g c =
    let cause = causes.NumbersEnd c.in-NumbersEnd.which in
    rw c.in-NumbersEnd.is (closes_put cause c.args.lines _ _ _ _ (c.end_line.ensures c.args.lines) c.put_last-in-NumbersEnd.ensures.put)
