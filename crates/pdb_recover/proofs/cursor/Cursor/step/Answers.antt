use Rattle.std.proofs.Common.{◌≡◌, ◌+◌, ap, subst}
use Rattle.std.specs.Prelude.{MatchOption}
use Rattle.pdb_disk.specs.Files.{Files}
use Rattle.pdb_model.specs.Logs.{StandsWhole}
use Rattle.pdb_model.specs.Records.{Record, record_bytes}
use Rattle.pdb_recover.proofs.ReadBytes.{same_files}
use Rattle.pdb_recover.proofs.ReadRecords.{Headed}
use Rattle.pdb_recover.proofs.ScanSteps.{steps_on}
use Rattle.pdb_recover.proofs.cursor.Cursor.step.Goals as goal

pub returns-clause-steps : goal.returns-clause-steps
returns-clause-steps g c told n h =
    let fs = g.D.Disk.past c.args.disk.now (g.D.Disk.clock c.args.disk.now) in
    let one = c.in_ok-bytes.ensures.only_reads in
    let found = subst (λ o. MatchOption o ((r : Record) → StandsWhole (fs c.args.self.now.file).read c.args.self.now.at r → ⊥)
    (λ b. (r : Record) × StandsWhole (fs c.args.self.now.file).read c.args.self.now.at r × (b ≡ record_bytes r))) c.in-Some.is (c.in_ok-bytes.ensures.whole told) in
    let headed = subst (λ (x : Files). Headed (x c.args.self.now.file).read (c.args.self.now.at + c.len.result) c.in-Ok.next)
    (same_files g.D.Disk.clock g.D.Disk.past c.args.disk.now c.record_at.new.disk one.time one.unchanged) (c.in-Ok.ensures.head (one.told told)) in
    steps_on (fs c.args.self.now.file).read c.args.self.now _ n c.args.head c.in-Ok.next found.0 c.in-Some.bytes c.requires found.1 found.2
    (ap (λ k. c.args.self.now.at + k) c.len.ensures) headed c.after-self.ensures h
