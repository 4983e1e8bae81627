-- Reads of a disk that was recovered.
use Rattle.std.proofs.Common.{◌≡◌, ℕ, sym, subst}
use Rattle.pdb_disk.specs.Files.{Files, IsImage, reads_of}
use Rattle.pdb_disk.specs.Moments.{Moments}
use Rattle.pdb_disk.proofs.Calls.{at_end, joined, no_time}
use Rattle.pdb_log.specs.Recovered.{IsRecovered}
use Rattle.pdb_model.specs.Files.{head_cell}
use Rattle.pdb_model.specs.Recovery.{Row, cells_of_files}
use Rattle.pdb_model.specs.declared.gate_slot.GateSlot.{GateSlot}

module _ {D : Type 0} (clock : D → ℕ) (past : D → ℕ → Files) (recovered now : D) (time : clock now ≡ clock recovered) (same : past now ≡ past recovered) where
  -- reads add no moment
  pub moments_read : (first : D) (P : Files → Type 0) → Moments (clock first) (clock recovered) (past first) (past recovered) P → Moments (clock first) (clock now) (past first) (past now) P
  moments_read first P h = joined _ _ _ _ _ _ P h (no_time (clock recovered) (clock now) (past recovered) (past now) P time same (at_end _ _ _ _ P h))

  pub still_recovered : (g : GateSlot) (row : Row) → IsRecovered (past recovered (clock recovered)) g row → IsRecovered (past now (clock now)) g row
  still_recovered g row is = subst (λ (fs : Files). IsRecovered fs g row) (λ i. sym same i (sym time i)) is

-- a head cell that is read is the row's
pub head_of_row : (fs : Files) (g : GateSlot) (row : Row) (column : ℕ) → IsImage fs (reads_of fs) → IsRecovered fs g row → head_cell (cells_of_files (reads_of fs)) column ≡ head_cell row.cells column
head_of_row fs g row column image is = sym (λ i. head_cell (λ file index. is.cells (reads_of fs) image file index i) column)
