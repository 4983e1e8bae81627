-- How far records have come after a call.
use Rattle.std.proofs.Common.{◌≡◌, ℕ, ◌+◌, ◌-◌, List, [], ◌∷◌, ◌++◌, map, None, Some, refl, sym, ◌∙◌, ap, subst, arith}
use Rattle.std.specs.Prelude.{slice_get}
use Rattle.std.proofs.lemmas.List.{length-map, map-append}
use Rattle.pdb_disk.specs.Files.{Files}
use Rattle.pdb_log.specs.Elapsed.{TimeGoesOn}
use Rattle.pdb_model.specs.Records.{Record}
use Rattle.pdb_redo.specs.Backlogs.{records_in}
use Rattle.pdb_redo.specs.Reaches.{Advances, RedoGoesOn, Reach, all_ready, reach_at, reach_of, with_logged}
use Rattle.pdb_redo.specs.declared.redo_log.Mark.{Mark}
use Rattle.pdb_redo.specs.declared.redo_log.Redo.{Redo}
use Rattle.pdb_redo.specs.inner.Carrying.{AreMarked}
use Rattle.pdb_redo.proofs.Marked.{next_number, none_waits}

-- by the marks and the records that wait
abbrev pub reach_by : Mark → Mark → Mark → List Record → Reach
reach_by appended flushed enacted rs = record {
  logged = appended.commits;
  flushed = flushed.commits;
  enacted = enacted.commits;
  waiting = map (λ (r : Record). r.commits) rs;
  ready = flushed.number - enacted.number;
}

-- at opening
pub reach_begun : (mark : Mark) (rs : List Record) → rs ≡ [] → reach_by mark mark mark rs ≡ reach_at mark.commits
reach_begun mark rs none =
    ap (reach_by mark mark mark) none
    ∙ ap (λ n. record { logged = mark.commits; flushed = mark.commits; enacted = mark.commits; waiting = []; ready = n }) (omega arith)

module _ {D : Type 0} where
  pub reach_same : (old new : Redo D) → new.appended ≡ old.appended → new.flushed ≡ old.flushed → new.enacted ≡ old.enacted → records_in new.backlog ≡ records_in old.backlog → reach_of new ≡ reach_of old
  reach_same old new a f e r =
      ap (λ (m : Mark). reach_by m new.flushed new.enacted (records_in new.backlog)) a
      ∙ ap (λ (m : Mark). reach_by old.appended m new.enacted (records_in new.backlog)) f
      ∙ ap (λ (m : Mark). reach_by old.appended old.flushed m (records_in new.backlog)) e
      ∙ ap (λ (rs : List Record). reach_by old.appended old.flushed old.enacted rs) r

  -- a record more
  pub reach_logged : (old new : Redo D) (mark : Mark) (r : Record) → new.appended ≡ mark → new.flushed ≡ old.flushed → new.enacted ≡ old.enacted
      → records_in new.backlog ≡ records_in old.backlog ++ r ∷ [] → r.commits ≡ mark.commits → reach_of new ≡ with_logged (reach_of old) mark.commits
  reach_logged old new mark r a f e records same =
      ap (λ (m : Mark). reach_by m new.flushed new.enacted (records_in new.backlog)) a
      ∙ ap (λ (m : Mark). reach_by mark m new.enacted (records_in new.backlog)) f
      ∙ ap (λ (m : Mark). reach_by mark old.flushed m (records_in new.backlog)) e
      ∙ ap (λ (rs : List Record). reach_by mark old.flushed old.enacted rs) records
      ∙ ap with_waiting (map-append (λ (q : Record). q.commits) (records_in old.backlog) (r ∷ []) ∙ ap (λ n. map (λ (q : Record). q.commits) (records_in old.backlog) ++ n ∷ []) same)
    where
      with_waiting : List ℕ → Reach
      with_waiting ns = record (reach_by mark old.flushed old.enacted []) { waiting = ns }

  -- all are flushed
  pub reach_flushed : (old : Redo D) → reach_by old.appended old.appended old.enacted (records_in old.backlog) ≡ all_ready (reach_of old)
  reach_flushed old = ap (λ n. record (reach_by old.appended old.appended old.enacted (records_in old.backlog)) { ready = n })
      (let count = old.marked.1 in let many = length-map (records_in old.backlog) (λ (q : Record). q.commits) in omega (arith, count, many))

  -- the oldest one is enacted
  pub reach_enacted : (old : Redo D) (mark : Mark) (r : Record) (rs left : List Record) → (old.enacted.number ≡ old.flushed.number → ⊥) → records_in old.backlog ≡ r ∷ rs → left ≡ rs
      → mark ≡ record { number = r.number; commits = r.commits } → Advances (reach_of old) (Some mark.commits) (reach_by old.appended old.flushed mark left)
  reach_enacted old mark r rs left waits was is same = (
    old.flushed.number - mark.number,
    map (λ (q : Record). q.commits) rs,
    (let at = ap (λ (m : Mark). m.number) same in let first = number in let behind = old.marked.2 in omega (arith, at, first, waits, behind)),
    ap (map (λ (q : Record). q.commits)) was ∙ ap (λ (m : Mark). m.commits ∷ map (λ (q : Record). q.commits) rs) (sym same),
    ap (reach_by old.appended old.flushed mark) is,
  )
    where
      number : r.number ≡ old.enacted.number + 1
      number = next_number old.enacted.number old.flushed.number old.appended.number r rs (subst (AreMarked old.enacted.number old.flushed.number old.appended.number) was old.marked)

  -- no flushed record waits
  pub reach_idle : (r : Redo D) → r.enacted.number ≡ r.flushed.number → Advances (reach_of r) None (reach_of r)
  reach_idle r e = (omega (arith, e), refl)

  pub reach_done : (r : Redo D) → slice_get (records_in r.backlog) 0 ≡ None → r.enacted.number ≡ r.flushed.number
  reach_done r none = none_waits r.enacted.number r.flushed.number r.appended.number (records_in r.backlog) r.marked none

  module _ (clock : D → ℕ) (past : D → ℕ → Files) where
    pub goes_by : (old new : Redo D) → TimeGoesOn clock past old.log.disk new.log.disk → new.reads ≡ old.reads → RedoGoesOn clock past old new
    goes_by old new time reads = record { later = time.later; earlier = time.earlier; reads = omega (arith, reads) }
