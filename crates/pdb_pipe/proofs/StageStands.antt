-- A database stands for its commits after a call that leaves its cells, its queue and how many are logged.
use Rattle.std.proofs.Common.{◌≡◌, ℕ, Bool, List, ◌∷◌, ◌++◌, length, take, Option, None, Some, refl, sym, ◌∙◌, ap, subst}
use Rattle.std.specs.Prelude.{IsTrue, slice_get, slice_index}
use Rattle.std.proofs.Math.Seq.{take-append_seam}
use Rattle.std.proofs.lemmas.Option.{same_Some}
use Rattle.sdb_base.specs.Keeping.{Commits}
use Rattle.sdb_base.specs.declared.op.Op.{Op}
use Rattle.pdb_cells.specs.Content.{Content}
use Rattle.pdb_column.specs.Holding.{HoldsColumns}
use Rattle.pdb_disk.specs.Files.{Files}
use Rattle.pdb_model.specs.Recovery.{Row}
use Rattle.pdb_redo.specs.Reaches.{reach_of}
use Rattle.pdb_redo.specs.Standing.{IsStanding, cells_under_records}
use Rattle.pdb_redo.specs.declared.redo_log.Redo.{Redo}
use Rattle.pdb_redo.proofs.Kept.{last_row}
use Rattle.pdb_pipe.specs.Commits.{contents_of}
use Rattle.pdb_pipe.specs.Stages.{IsNextCommit, logged_of}
use Rattle.pdb_pipe.specs.Standing.{StandsFor, bases_of}
use Rattle.pdb_pipe.specs.declared.database.Database.{Database}
use Rattle.pdb_pipe.proofs.StageContents.{at_seam, same_content}

-- one that no call stopped
pub by_stop : {P : Type 0} (stopped : Option ℕ) → (stopped ≡ None → P) → ((call : ℕ) → stopped ≡ Some call → P) → P
by_stop None runs was = runs refl
by_stop (Some call) runs was = was call refl

module _ {D : Type 0} (tells : D → Bool) (clock : D → ℕ) (past : D → ℕ → Files) where
  abbrev Cells : Redo D → Content
  Cells r = cells_under_records clock past r

  -- two that stand for the same rows have the same cells
  pub rows_alike : (a b : Redo D) (rows : List Row) (f h : ℕ) → IsStanding tells clock past a rows f → IsStanding tells clock past b rows h
      → (file index : ℕ) → Cells b file index ≡ Cells a file index
  rows_alike a b rows f h is now file index =
      let p = last_row tells clock past a rows f is in
      let q = last_row tells clock past b rows h now in
      q.2 file index ∙ ap (λ (w : Row). w.cells file index) (same_Some q.0 p.0 (sym q.1 ∙ p.1)) ∙ sym (p.2 file index)

  pub logged_are : (db : Database D) (commits : Commits) (s : StandsFor tells clock past db commits) → logged_of db commits ≡ s.logged
  logged_are db commits s =
      ap (λ (n : ℕ). take n commits) (sym s.count) ∙ ap (λ (cs : Commits). take (length s.logged) cs) s.parts ∙ take-append_seam s.logged db.queue

  pub next_is : (db : Database D) (commits : Commits) (s : StandsFor tells clock past db commits) (ops : List Op) (rest : Commits) → db.queue ≡ ops ∷ rest → IsNextCommit db commits ops
  next_is db commits s ops rest e =
      ap (λ (n : ℕ). slice_get commits n) (sym s.count)
      ∙ ap (λ (cs : Commits). slice_get cs (length s.logged)) (s.parts ∙ ap (λ (q : Commits). s.logged ++ q) e) ∙ at_seam s.logged rest ops

  module _ (old new : Database D) (queue : new.queue ≡ old.queue) (bases : new.bases ≡ old.bases) (logged : (reach_of new.redo).logged ≡ (reach_of old.redo).logged)
      (told : IsTrue (tells old.redo.log.disk) → IsTrue (tells new.redo.log.disk)) (commits : Commits) (s : StandsFor tells clock past old commits) where
    -- with the same cells
    pub stands_still : ((file index : ℕ) → Cells new.redo file index ≡ Cells old.redo file index)
        → (new.redo.stopped ≡ None → (rows : List Row) × (f : ℕ) × IsStanding tells clock past new.redo rows f) → StandsFor tells clock past new commits
    stands_still cells rows = record {
      told = told s.told;
      logged = s.logged;
      parts = s.parts ∙ ap (λ (q : Commits). s.logged ++ q) (sym queue);
      count = s.count ∙ sym logged;
      columns = subst (λ (x : Content). HoldsColumns x (bases_of new) (contents_of s.logged)) (sym (same_content (Cells new.redo) (Cells old.redo) cells))
          (subst (λ (b : List ℕ). HoldsColumns (Cells old.redo) (λ column. slice_index b column) (contents_of s.logged)) (sym bases) s.columns);
      rows = rows;
    }

    -- with the same rows where it was running, and else without a change
    pub stands_on : ((rows : List Row) (f : ℕ) → IsStanding tells clock past old.redo rows f
        → ((file index : ℕ) → Cells new.redo file index ≡ Cells old.redo file index)
        × (new.redo.stopped ≡ None → (qs : List Row) × (h : ℕ) × IsStanding tells clock past new.redo qs h))
        → ((call : ℕ) → old.redo.stopped ≡ Some call → new.redo ≡ old.redo) → StandsFor tells clock past new commits
    stands_on kept again = by_stop old.redo.stopped
        (λ none. let at = s.rows none in let k = kept at.0 at.1 at.2 in stands_still k.0 k.1)
        (λ call e. let same = again call e in
        stands_still (λ file index. ap (λ (r : Redo D). Cells r file index) same) (λ none. let t = ap (λ (r : Redo D). r.stopped) same in absurd (cc)))
