use Rattle.std.proofs.Common.{◌≡◌, ◌+◌, ◌-◌, length, refl, ◌∙◌, subst, arith}
use Rattle.std.specs.Prelude.{MatchBool}
use Rattle.pdb_disk.specs.Files.{Files}
use Rattle.pdb_recover.specs.inner.ReadPuts.{AddsPut, HasNoPut}
use Rattle.pdb_recover.proofs.PutBodies.{goes_no_further, put_added}
use Rattle.pdb_recover.proofs.ReadBytes.{reads_after, same_files}
use Rattle.pdb_recover.proofs.record_at.add_body.Goals as goal

pub returns-then-not-branch-clause-body : goal.returns-then-not-branch-clause-body
returns-then-not-branch-clause-body g c told =
    let i = c.loop-done.invariant in
    let same = same_files g.D.Disk.clock g.D.Disk.past c.args.disk.now c.loop-done.disk i.2.time i.2.unchanged in
    let fs = g.D.Disk.past c.args.disk.now (g.D.Disk.clock c.args.disk.now) in
    let put = subst (λ (x : Files). MatchBool c.in_ok-add_put.field-0
    (AddsPut (x c.args.file).read (c.args.at + c.loop-done.done) c.loop-done.bytes.items c.add_put.new.bytes.items)
    (HasNoPut (x c.args.file).read (c.args.at + c.loop-done.done) (c.args.len - c.loop-done.done))) same (c.in_ok-add_put.ensures.put (i.2.told told)) in
    let none = subst (λ b. MatchBool b
    (AddsPut (fs c.args.file).read (c.args.at + c.loop-done.done) c.loop-done.bytes.items c.add_put.new.bytes.items)
    (HasNoPut (fs c.args.file).read (c.args.at + c.loop-done.done) (c.args.len - c.loop-done.done))) c.if-not-branch.true put in
    goes_no_further (fs c.args.file).read c.args.at c.args.len c.loop-done.done (c.args.len - c.loop-done.done) c.loop-done-test.true refl (i.4 told).1 none

pub loop-done-preserved : goal.loop-done-preserved
loop-done-preserved g c =
    let i = c.loop-done.invariant in
    let test = c.loop-done-test.true in
    let sizes = c.in_ok-add_put.ensures.len c.if-not-branch.false in
    let low = sizes.0 in
    let high = sizes.1 in
    let long : length c.add_put.new.bytes.items ≡ length c.loop-done.bytes.items + (c.len.result - c.len-before.result)
    = let a = c.len.ensures ∙ c.add_put.new.bytes.ok.0 in let b = c.len-before.ensures ∙ c.loop-done.bytes.ok.0 in omega (arith, a, b, low) in
    let so_far = i.1 in (
      omega (arith, long, high, test),
      omega (arith, long, so_far),
      reads_after g.D.Disk.tells g.D.Disk.clock g.D.Disk.past g.D.Disk.read_count c.args.disk.now c.loop-done.disk c.add_put.new.disk i.2 c.in_ok-add_put.ensures.only_reads,
      c.in_ok-add_put.ensures.counted ∙ i.3,
      λ told.
          let same = same_files g.D.Disk.clock g.D.Disk.past c.args.disk.now c.loop-done.disk i.2.time i.2.unchanged in
          let fs = g.D.Disk.past c.args.disk.now (g.D.Disk.clock c.args.disk.now) in
          let put = subst (λ (x : Files). MatchBool c.in_ok-add_put.field-0
          (AddsPut (x c.args.file).read (c.args.at + c.loop-done.done) c.loop-done.bytes.items c.add_put.new.bytes.items)
          (HasNoPut (x c.args.file).read (c.args.at + c.loop-done.done) (c.args.len - c.loop-done.done))) same (c.in_ok-add_put.ensures.put (i.2.told told)) in
          let adds = subst (λ b. MatchBool b
          (AddsPut (fs c.args.file).read (c.args.at + c.loop-done.done) c.loop-done.bytes.items c.add_put.new.bytes.items)
          (HasNoPut (fs c.args.file).read (c.args.at + c.loop-done.done) (c.args.len - c.loop-done.done))) c.if-not-branch.false put in
          put_added (fs c.args.file).read c.args.at c.args.len c.loop-done.done (c.len.result - c.len-before.result) c.args.bytes.now.items c.loop-done.bytes.items c.add_put.new.bytes.items
          test long adds (i.4 told).0 (i.4 told).1,
    )
