-- The steps of recovery, one after the other.
use Rattle.std.proofs.Common.{◌≡◌, ℕ, ◌≤◌, List, sym, ◌∙◌, ap, subst}
use Rattle.std.specs.Prelude.{Bool, Some, slice_get}
use Rattle.pdb_disk.specs.Files.{Files, Image, IsImage, reads_of}
use Rattle.pdb_disk.specs.Moments.{Moments}
use Rattle.pdb_disk.proofs.Calls.{no_time, weaker}
use Rattle.pdb_model.specs.Recovery.{Laid, Row, Safe, cells_of_files}
use Rattle.pdb_model.specs.declared.gate_slot.GateSlot.{GateSlot}
use Rattle.pdb_recover.specs.Recovering.{AreSettled, IsRecovered, Recovers}
use Rattle.pdb_recover.specs.Scanning.{IsPending, OnlyReads}
use Rattle.pdb_recover.specs.declared.pending_puts.Pending.{Pending}

-- one row of the list, at whatever moment
pub row_safe : (rows : List Row) (f k : ℕ) (row : Row) (fs : Files) → f ≤ k → slice_get rows k ≡ Some row → Recovers fs row → Safe rows f fs
row_safe rows f k row fs low there recovers x image clear = (k, row, low, there, recovers x image clear)

pub row_moments : (before now : ℕ) (past since : ℕ → Files) (rows : List Row) (f k : ℕ) (row : Row) → f ≤ k → slice_get rows k ≡ Some row
    → Moments before now past since (λ fs. Recovers fs row) → Moments before now past since (Safe rows f)
row_moments before now past since rows f k row low there h =
    weaker before now past since (λ fs. Recovers fs row) (Safe rows f) h (λ fs recovers. row_safe rows f k row fs low there recovers)

module _ {D : Type 0} (tells : D → Bool) (clock : D → ℕ) (past : D → ℕ → Files) (read_count : D → ℕ) (old new : D) (h : OnlyReads tells clock past read_count old new) where
  -- a call that only reads leaves the files
  pub same_files : past new (clock new) ≡ past old (clock old)
  same_files = λ i. h.unchanged i (h.time i)

  pub reading_moments : (P : Files → Type 0) → P (past old (clock old)) → Moments (clock old) (clock new) (past old) (past new) P
  reading_moments P is = no_time (clock old) (clock new) (past old) (past new) P h.time h.unchanged is

-- the row's cells are those that are read
pub recovered_cells : (fs : Files) (g : GateSlot) (row : Row) → IsImage fs (reads_of fs) → IsRecovered fs g row → row.cells ≡ cells_of_files (reads_of fs)
recovered_cells fs g row image is = λ i file index. is.cells (reads_of fs) image file index i

-- the files in which recovery has found what is pending read as at its beginning
pub record Seen (before : Image) (new : Files) (p : Pending) : Type 0 where
  pub settled : AreSettled new
  pub pending : IsPending (reads_of new) p
  pub at_first : IsPending before p
  pub laid : (row : Row) → Laid before row → Laid (reads_of new) row

pub seen : {D : Type 0} (tells : D → Bool) (clock : D → ℕ) (past : D → ℕ → Files) (read_count : D → ℕ) (before : Image) (synced now : D) (p : Pending)
    → OnlyReads tells clock past read_count synced now → AreSettled (past synced (clock synced)) → reads_of (past synced (clock synced)) ≡ before
    → IsPending (reads_of (past synced (clock synced))) p → Seen before (past now (clock now)) p
seen tells clock past read_count before synced now p h settled read found = record {
  settled = subst AreSettled (sym same) settled;
  pending = subst (λ (x : Image). IsPending x p) (ap reads_of (sym same)) found;
  at_first = subst (λ (x : Image). IsPending x p) read found;
  laid = λ row is. subst (λ (x : Image). Laid x row) (sym read ∙ ap reads_of (sym same)) is;
}
  where
    same : past now (clock now) ≡ past synced (clock synced)
    same = same_files tells clock past read_count synced now h
