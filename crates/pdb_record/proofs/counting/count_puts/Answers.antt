use Rattle.std.proofs.Common.{◌≡◌, ◌==◌, [], Some, true, length, ap, ◌∙◌, arith}
use Rattle.pdb_record.specs.Scans.{put_of}
use Rattle.pdb_record.specs.declared.put_refs.PutRefs.{PutRefs}
use Rattle.pdb_record.proofs.Splits.{Stops, counted_all, counted_bound, counted_more}
use Rattle.pdb_record.proofs.counting.count_puts.Goals as goal

pub overflow_add-count : goal.overflow_add-count
overflow_add-count c = omega (arith, counted_bound c.args.body.now c.loop-put.puts.left.now c.loop-put.count c.loop-put.invariant)

pub loop-put-preserved : goal.loop-put-preserved
loop-put-preserved c = counted_more c.args.body.now c.loop-put.puts.left.now c.next.new.self.left.now c.loop-put.count (put_of c.in-Some._put)
    c.loop-put.invariant c.in-Some.ensures.only.0 c.in-Some.ensures.only.1

pub returns-then-is_empty-clause-whole : goal.returns-then-is_empty-clause-whole
returns-then-is_empty-clause-whole c ps is whole =
    let stops : Stops c.loop-put.puts.left.now = λ p qs e w. c.in_default.ensures.more p qs (record { bytes = e; whole = w }) in
    ap Some (counted_all c.args.body.now c.loop-put.puts.left.now c.loop-put.count ps c.loop-put.invariant stops is whole).1

pub returns-else-is_empty-clause-whole : goal.returns-else-is_empty-clause-whole
returns-else-is_empty-clause-whole c ps is whole =
    let stops : Stops c.loop-put.puts.left.now = λ p qs e w. c.in_default.ensures.more p qs (record { bytes = e; whole = w }) in
    let empty : c.loop-put.puts.left.now ≡ [] = (counted_all c.args.body.now c.loop-put.puts.left.now c.loop-put.count ps c.loop-put.invariant stops is whole).0 in
    let none : length c.next.new.self.left.now ≡ 0 = ap (λ (it : PutRefs). length it.left.now) c.in_default.ensures.stays ∙ ap length empty in
    let ended : c.is_empty.result ≡ true = c.is_empty.ensures ∙ ap (λ n. n == 0) none in
    cc
