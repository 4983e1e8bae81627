use Rattle.std.proofs.Common.{◌≡◌, true, false, is_ok, sym, ◌∙◌}
use Rattle.pdb_record.specs.Scans.{put_of}
use Rattle.pdb_record.specs.inner.Blocks.{IsApart}
use Rattle.pdb_record.proofs.Loops.{looked_all, looked_found, looked_more}
use Rattle.pdb_record.proofs.Once.{apart_search, found_search}
use Rattle.pdb_record.proofs.Splits.{Stops}
use Rattle.pdb_record.proofs.repeats.are_new.Goals as goal

pub returns-then-is_ok : goal.returns-then-is_ok
returns-then-is_ok c ps leaves =
    let ok : is_ok c.binary_search.result ≡ true = sym c.is_ok.ensures.value ∙ c.if-is_ok.true in
    let there : ¬ IsApart c.in-Some.put.name c.args.names.now = found_search c.args.names.now c.in-Some.put.name c.binary_search.result c.binary_search.ensures.bound c.binary_search.ensures.ok ok in
    looked_found ps c.args.names.now c.loop-put.left (put_of c.in-Some.put) c.next.new.self.left.now (c.loop-put.invariant ps leaves) c.in-Some.ensures.only.0 c.in-Some.ensures.only.1 there

pub loop-put-preserved : goal.loop-put-preserved
loop-put-preserved c ps leaves =
    let ok : is_ok c.binary_search.result ≡ false = sym c.is_ok.ensures.value ∙ c.if-is_ok.false in
    let apart : IsApart c.in-Some.put.name c.args.names.now = apart_search c.args.names.now c.in-Some.put.name c.binary_search.result c.requires c.binary_search.ensures.position ok in
    looked_more ps c.args.names.now c.loop-put.left c.next.new.self (put_of c.in-Some.put) (c.loop-put.invariant ps leaves) c.in-Some.ensures.only.0 c.in-Some.ensures.only.1 apart

pub returns : goal.returns
returns c ps leaves =
    let stops : Stops c.loop-put.left.left.now = λ p qs e w. c.in_default.ensures.more p qs (record { bytes = e; whole = w }) in
    looked_all ps c.args.names.now c.loop-put.left (c.loop-put.invariant ps leaves) stops
