-- The records that wait for their cells to be written.
use Rattle.std.specs.Prelude.{◌≡◌, ◌<◌, ◌≤◌, ◌+◌, ℕ, List, [], ◌∷◌, length, map}
use Rattle.std.specs.HashMap.{spare}
use Rattle.std.specs.VecDeque.{deque_capacity, deque_len}
use Rattle.pdb_cells.specs.declared.Put.{Put}
use Rattle.pdb_model.specs.Records.{Record}
use Rattle.pdb_redo.specs.Places.{record_of}
use Rattle.pdb_redo.specs.declared.backlog.Backlog.{Backlog}

-- the records, oldest first
abbrev pub records_in : Backlog → List Record
records_in b = map record_of b.records.items

-- there is room for a record of these puts
pub record HasPlaceFor (b : Backlog) (puts : List Put) : Type 0 where
  pub records : deque_len b.records < deque_capacity b.records
  pub names : length puts ≤ spare b.places

-- a record of this number comes after these
abbrev pub IsNextNumber : List Record → ℕ → Type 0
IsNextNumber [] n = Unit {0}
IsNextNumber (r ∷ []) n = r.number + 1 ≡ n
IsNextNumber (r ∷ q ∷ rs) n = IsNextNumber (q ∷ rs) n
