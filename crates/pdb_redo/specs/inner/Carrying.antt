-- What a redo knows of the records that wait, whatever its disk tells, and what puts make of the head cells.
use Rattle.std.specs.Prelude.{◌≡◌, ◌+◌, ◌≤◌, ℕ, List, [], ◌∷◌, Some, length, slice_get}
use Rattle.pdb_cells.specs.Puts.{IsWholeCell}
use Rattle.pdb_cells.specs.declared.Put.{Put}
use Rattle.pdb_model.specs.Records.{Record}
use Rattle.pdb_redo.specs.Heads.{heads_after}
use Rattle.pdb_redo.specs.declared.heads.Heads.{Heads}

-- each record puts whole cells
abbrev pub HaveWholeCells : List Record → Type 0
HaveWholeCells records = (k j : ℕ) (r : Record) (p : Put) → slice_get records k ≡ Some r → slice_get r.puts j ≡ Some p → IsWholeCell p

-- the last record, if there is one, has this number
abbrev pub EndAt : List Record → ℕ → Type 0
EndAt records n = (k : ℕ) (r : Record) → k + 1 ≡ length records → slice_get records k ≡ Some r → r.number ≡ n

-- the numbers rise by one, from the one after this on
abbrev pub AreNumberedAfter : ℕ → List Record → Type 0
AreNumberedAfter n records = (k : ℕ) (r : Record) → slice_get records k ≡ Some r → r.number ≡ n + k + 1

-- By the numbers of the last record that was enacted, flushed, appended: these records are those after the first and up to the
-- last, and the flushed one is between the two.
abbrev pub AreMarked : ℕ → ℕ → ℕ → List Record → Type 0
AreMarked enacted flushed appended records = AreNumberedAfter enacted records × (appended ≡ enacted + length records) × (enacted ≤ flushed) × (flushed ≤ appended)

-- the head cells after puts
abbrev pub heads_laid : Heads → List Put → Heads
heads_laid h [] = h
heads_laid h (p ∷ ps) = heads_laid (heads_after h p.name p.bytes) ps
