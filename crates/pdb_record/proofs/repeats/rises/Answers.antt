use Rattle.std.proofs.Common.{sym, subst, ◌∙◌}
use Rattle.pdb_cells.specs.Puts.{NoCellTwice}
use Rattle.pdb_record.specs.Scans.{put_of}
use Rattle.pdb_record.proofs.Loops.{rising_all, rising_first, rising_more}
use Rattle.pdb_record.proofs.Once.{below_from_le}
use Rattle.pdb_record.proofs.Splits.{Stops, stopped}
use Rattle.pdb_record.proofs.repeats.rises.Goals as goal

pub returns-in_default : goal.returns-in_default
returns-in_default c ps leaves =
    let stops : Stops c.args.puts.left.now = λ p qs e w. c.in_default.ensures.more p qs (record { bytes = e; whole = w }) in
    subst NoCellTwice (sym (stopped ps c.args.puts.left.now stops leaves.bytes leaves.whole)) tt

pub loop-put-init : goal.loop-put-init
loop-put-init c ps leaves = rising_first ps c.args.puts c.next.new.self (put_of c.in-Some.first) leaves c.in-Some.ensures.only.0 c.in-Some.ensures.only.1

pub loop-put-preserved : goal.loop-put-preserved
loop-put-preserved c ps leaves =
    rising_more ps c.loop-put.last c.loop-put.left c.next-in-loop-put.new.self (put_of c.in-Some-next.put) (c.loop-put.invariant ps leaves)
    c.in-Some-next.ensures.only.0 c.in-Some-next.ensures.only.1 (below_from_le c.in-Some-next.put.name c.loop-put.last (sym c.le.ensures ∙ c.if-le.false))

pub returns : goal.returns
returns c ps leaves =
    let stops : Stops c.loop-put.left.left.now = λ p qs e w. c.in_default-next.ensures.more p qs (record { bytes = e; whole = w }) in
    rising_all ps c.loop-put.last c.loop-put.left (c.loop-put.invariant ps leaves) stops
