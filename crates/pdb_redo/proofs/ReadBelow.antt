-- A cell that is read from its file.
use Rattle.std.proofs.Common.{◌≡◌, ℕ, ◌*◌, Bool, List, length, None, Some, sym, ◌∙◌, ap, arith, append-nil}
use Rattle.std.specs.Option.{unwrap_or}
use Rattle.pdb_cells.specs.Sizes.{size_of}
use Rattle.pdb_cells.specs.declared.CellName.{CellName}
use Rattle.pdb_disk.specs.Files.{Files, StandsAt, reads_of}
use Rattle.pdb_log.proofs.Bytes.{stands_first}
use Rattle.pdb_model.specs.Recovery.{bytes_from, cells_of_files}
use Rattle.pdb_redo.specs.Backlogs.{records_in}
use Rattle.pdb_redo.specs.Heads.{head_in}
use Rattle.pdb_redo.specs.Places.{newest}
use Rattle.pdb_redo.specs.Standing.{cells_under_records}
use Rattle.pdb_redo.specs.declared.redo_log.Redo.{Redo}

pub same_files : (t u : ℕ) (old new : ℕ → Files) → u ≡ t → new ≡ old → (j : ℕ) → new u j ≡ old t j
same_files t u old new time same j = ap (λ (fs : ℕ → Files). fs u j) same ∙ ap (λ n. old n j) time

module _ {D : Type 0} (tells : D → Bool) (clock : D → ℕ) (past : D → ℕ → Files) where
  abbrev now : Redo D → Files
  now r = past r.log.disk (clock r.log.disk)

  pub read_below : (r : Redo D) (name : CellName) (bytes : List ℕ) → size_of name.file ≡ Some (length bytes) → None ≡ head_in r.heads name → None ≡ newest (records_in r.backlog) name
      → StandsAt (past r.log.disk (clock r.log.disk) name.file).read (name.index * length bytes) bytes → bytes ≡ cells_under_records clock past r name.file name.index
  read_below r name bytes sized head waiting there =
      sym (append-nil bytes)
      ∙ sym (stands_first (now r name.file).read (name.index * length bytes) bytes (length bytes) 0 (omega arith) there)
      ∙ sym (ap (λ n. bytes_from (now r name.file).read (name.index * n) n) (ap (λ o. unwrap_or o 0) sized))
      ∙ ap (λ o. unwrap_or o (cells_of_files (reads_of (now r)) name.file name.index)) waiting
      ∙ ap (λ o. unwrap_or o (unwrap_or (newest (records_in r.backlog) name) (cells_of_files (reads_of (now r)) name.file name.index))) head
