use Rattle.std.proofs.Common.{◌≡◌, ◌∙◌, ap, sym, ℕ, List, Some}
use Rattle.sdb_serve.specs.Given.{given_disk}
use Rattle.sdb_serve.specs.inner.Steps.{CountsWhere, Halts}
use Rattle.sdb_serve.specs.declared.cause.Stop.TheVariants as stops
use Rattle.sdb_serve.specs.declared.cause.Cause.TheVariants as causes
use Rattle.sdb_serve.proofs.Closing.{at_start, starts}
use Rattle.sdb_serve.proofs.FaultCounts.{is_disk, is_source, names_disk, names_source, one_counted}
use Rattle.sdb_serve.proofs.RunEnds.{ClosedAs, counts_named, run_of, twice_or_none, untouched_end}
use Rattle.sdb_serve.proofs.entry.run_script.Given as given
use Rattle.sdb_serve.proofs.entry.run_script.Goals.{in-SinkFault, in-Cause}
use Rattle.sdb_serve.proofs.entry.run_script.Goals as goal

-- where the run halted
halts : (g : given.Over) (c : goal.After-into_outcome g) (input : List ℕ) → g.S.Source.left c.args.source.now ≡ Some input
    → Halts g.D.Disk.tells g.D.Disk.clock g.D.Disk.past c.args.disk c.read_lines.result
    (at_start (given_disk g.D.Disk.tells g.D.Disk.clock g.D.Disk.past c.args.disk) input) input c.read_lines.new.session
    (g.S.Source.left c.read_lines.new.source) (g.K.Sink.got c.args.sink.now) (g.K.Sink.got c.read_lines.new.sink)
halts g c input told =
    let new = c.new-session.ensures in
    c.read_lines.ensures.stopped c.args.disk input _ told
    (starts g.D.Disk.tells g.D.Disk.clock g.D.Disk.past c.args.disk input c.new-session.result new.represents new.lines)

-- how it was closed
closed : (g : given.Over) (c : goal.After-into_outcome g)
    → ClosedAs c.read_lines.result c.read_lines.new.session.lines c.into_outcome.result.status (g.K.Sink.got c.read_lines.new.sink)
    (g.K.Sink.got c.match-read_lines.sink)
closed g c = elim c.match-read_lines.branch [
  | in-SinkFault w ↦ rw w.in-SinkFault.is (c.into_outcome.ensures.status ∙ w.status-is, ap g.K.Sink.got w.sink-is)
  | in-Cause w ↦
      let last = w.close-status.ensures.closed in
      rw (w.in-Cause.is, c.into_outcome.ensures.status, w.status-is, w.sink-is) (rw w.lines.ensures at last)
]

pub returns-clause-replies : goal.returns-clause-replies
returns-clause-replies g c = λ input told.
    rw (c.into_outcome.ensures.clock, c.into_outcome.ensures.marks)
    (run_of g.D.Disk.tells g.D.Disk.clock g.D.Disk.past c.args.disk c.read_lines.result input c.read_lines.new.session _ _ _ _ _
    (halts g c input told) (closed g c))

pub returns-clause-untouched : goal.returns-clause-untouched
returns-clause-untouched g c = λ input told e.
    let kept =
    untouched_end g.D.Disk.tells g.D.Disk.clock g.D.Disk.past c.args.disk c.read_lines.result input c.read_lines.new.session _ _ _ _ _
    (halts g c input told) (closed g c) e in
    let same = c.into_outcome.ensures.kept kept.0 kept.1 in
    (ap g.D.Disk.clock same ∙ kept.2, ap g.D.Disk.past same ∙ kept.3)

-- ---- counts of faults

pub returns-clause-one_source_fault : goal.returns-clause-one_source_fault
returns-clause-one_source_fault g c = one_counted _ _ _ (is_source c.read_lines.result) c.read_lines.ensures.source

pub returns-clause-source_and_sink : goal.returns-clause-source_and_sink
returns-clause-source_and_sink g c = λ input told e.
    rw (c.into_outcome.ensures.clock, c.into_outcome.ensures.marks)
    (twice_or_none g.D.Disk.tells g.D.Disk.clock g.D.Disk.past c.args.disk _ _ c.read_lines.result _ _ input c.read_lines.new.session
    _ _ _ _ _ names_source (is_source c.read_lines.result) c.read_lines.ensures.source (halts g c input told) (closed g c) e)

-- from the disk that was given to the one that is handed back
counted : (g : given.Over) (c : goal.After-into_outcome g)
    → CountsWhere (c.read_lines.result ≡ stops.Cause causes.Disk) (g.D.Disk.fault_count c.args.disk)
    (g.D.Disk.fault_count c.into_outcome.result.disk)
counted g c =
    let counts = c.read_lines.ensures.disk c.args.disk _ c.new-session.ensures.represents in
    rw (sym c.new-session.ensures.faults, c.into_outcome.ensures.faults) counts

pub returns-clause-disk : goal.returns-clause-disk
returns-clause-disk g c = λ whole. counts_named _ _ c.read_lines.result _ _ _ _ _ _ names_disk (closed g c) (counted g c) whole

pub returns-clause-one_disk_fault : goal.returns-clause-one_disk_fault
returns-clause-one_disk_fault g c = one_counted _ _ _ (is_disk c.read_lines.result) (counted g c)

pub returns-clause-disk_and_sink : goal.returns-clause-disk_and_sink
returns-clause-disk_and_sink g c = λ input told e.
    rw (c.into_outcome.ensures.clock, c.into_outcome.ensures.marks)
    (twice_or_none g.D.Disk.tells g.D.Disk.clock g.D.Disk.past c.args.disk _ _ c.read_lines.result _ _ input c.read_lines.new.session
    _ _ _ _ _ names_disk (is_disk c.read_lines.result) (counted g c) (halts g c input told) (closed g c) e)
