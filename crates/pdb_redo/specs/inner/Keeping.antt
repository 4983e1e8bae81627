-- Reads after reads are reads, and what is observable stays.
use Rattle.std.specs.Prelude.{◌≡◌, ◌≤◌, ℕ, Bool, true, false, Option, Some, None, IsTrue, if◌then◌else◌, refl, unwrap_or}
use Rattle.std.proofs.Common.{◌∙◌, ap, ap₂, arith}
use Rattle.pdb_cells.specs.Content.{Content}
use Rattle.pdb_disk.specs.Files.{Files, reads_of}
use Rattle.pdb_log.specs.declared.log.Log.{Log}
use Rattle.pdb_model.specs.Recovery.{cells_of_files}
use Rattle.pdb_redo.specs.Backlogs.{records_in}
use Rattle.pdb_redo.specs.Heads.{head_in}
use Rattle.pdb_redo.specs.Places.{newest}
use Rattle.pdb_redo.specs.Standing.{KeepsRedo, cells_under_records}
use Rattle.pdb_redo.specs.declared.redo_log.Redo.{Redo}

module _ {D : Type 0} (tells : D → Bool) (clock : D → ℕ) (past : D → ℕ → Files) (fault_count : D → ℕ) where
  abbrev Keeps : Redo D → Redo D → Type 0
  Keeps a b = KeepsRedo tells clock past fault_count a b

  pub keeps_itself : (a : Redo D) → Keeps a a
  keeps_itself a = record { log = refl; rest = refl; time = refl; unchanged = refl; told = λ t. t; untold = λ t. t; faults = omega arith; reads = omega arith }

  pub keeps_on : (a b c : Redo D) → Keeps a b → Keeps b c → Keeps a c
  keeps_on a b c p q = record {
    log = q.log ∙ ap (λ (l : Log D). record l { disk = c.log.disk }) p.log;
    rest = q.rest ∙ ap (λ (r : Redo D). record r { log = c.log; reads = c.reads }) p.rest;
    time = q.time ∙ p.time;
    unchanged = q.unchanged ∙ p.unchanged;
    told = λ t. q.told (p.told t);
    untold = λ t. p.untold (q.untold t);
    faults = let f = p.faults in let g = q.faults in omega (arith, f, g);
    reads = let f = p.reads in let g = q.reads in omega (arith, f, g);
  }

  same_cells : (a b : Redo D) → Keeps a b → cells_under_records clock past b ≡ cells_under_records clock past a
  same_cells a b p =
      ap (λ (r : Redo D). cells_under_records clock past r) p.rest
      ∙ ap₂ (λ (fs : ℕ → Files) (t : ℕ). cells_with fs t) p.unchanged p.time
    where
      cells_with : (ℕ → Files) → ℕ → Content
      cells_with fs t file index = unwrap_or (head_in a.heads (record { file = file; index = index }))
          (unwrap_or (newest (records_in a.backlog) (record { file = file; index = index })) (cells_of_files (reads_of (fs t)) file index))

  abbrev pub seen_of : Redo D → Bool → Option Content
  seen_of r t = if t then Some (cells_under_records clock past r) else None

  pub keeps_seen : (a b : Redo D) (cells : Content) → Keeps a b → seen_of a (tells a.log.disk) ≡ Some cells → seen_of b (tells b.log.disk) ≡ Some cells
  keeps_seen a b cells p seen = by_told (tells a.log.disk) (tells b.log.disk) p.told seen
    where
      by_told : (s t : Bool) → (IsTrue s → IsTrue t) → seen_of a s ≡ Some cells → seen_of b t ≡ Some cells
      by_told true true on e = ap Some (same_cells a b p) ∙ e
      by_told true false on e = let t = on refl in cc
      by_told false t on e = cc

  pub keeps_rises : (a b : Redo D) → Keeps a b → (fault_count a.log.disk ≤ fault_count b.log.disk) × (a.reads ≤ b.reads)
  keeps_rises a b p = (p.faults, p.reads)
