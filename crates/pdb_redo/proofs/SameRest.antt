-- What a redo knows of its records is known in one way.
use Rattle.std.proofs.Common.{◌≡◌, ℕ, List}
use Rattle.std.proofs.Props.{props}
use Rattle.pdb_model.specs.Records.{Record}
use Rattle.pdb_log.specs.declared.log.Log.{Log}
use Rattle.pdb_redo.specs.Backlogs.{records_in}
use Rattle.pdb_redo.specs.declared.redo_log.Redo.{Redo}
use Rattle.pdb_redo.specs.inner.Carrying.{AreMarked, EndAt, HaveWholeCells}

whole_once : (rs : List Record) → IsProp (HaveWholeCells rs)
whole_once rs = hlevel props

last_once : (rs : List Record) (n : ℕ) → IsProp (EndAt rs n)
last_once rs n = hlevel props

marked_once : (enacted flushed appended : ℕ) (rs : List Record) → IsProp (AreMarked enacted flushed appended rs)
marked_once enacted flushed appended rs = hlevel props

pub same_rest : {D : Type 0} (old : Redo D) (log : Log D) (reads : ℕ) (whole : HaveWholeCells (records_in old.backlog)) (last : EndAt (records_in old.backlog) old.appended.number)
    (marked : AreMarked old.enacted.number old.flushed.number old.appended.number (records_in old.backlog))
    → ◌≡◌ {A = Redo D} (record old { log = log; reads = reads; whole = whole; last = last; marked = marked }) (record old { log = log; reads = reads })
same_rest old log reads whole last marked = λ i. record old {
  log = log;
  reads = reads;
  whole = whole_once (records_in old.backlog) whole old.whole i;
  last = last_once (records_in old.backlog) old.appended.number last old.last i;
  marked = marked_once old.enacted.number old.flushed.number old.appended.number (records_in old.backlog) marked old.marked i;
}
