-- Where the newest bytes of cells are among records that wait.
use Rattle.std.specs.Prelude.{◌≡◌, ◌≤◌, ◌+◌, ℕ, List, [], ◌∷◌, ◌++◌, Option, Some, None, map, slice_get}
use Rattle.std.specs.Option.{option_or}
use Rattle.std.specs.HashMap.{HashMap, get}
use Rattle.pdb_cells.specs.Puts.{NoCellTwice, last_put, same_cell}
use Rattle.pdb_cells.specs.declared.CellName.{CellName}
use Rattle.pdb_cells.specs.declared.Put.{Put}
use Rattle.pdb_model.specs.Records.{Record}
use Rattle.pdb_redo.specs.declared.waiting.Place.{Place}
use Rattle.pdb_redo.specs.declared.waiting.Waiting.{Waiting}

-- the record that waits
abbrev pub record_of : Waiting → Record
record_of w = record { number = w.number; commits = w.commits; puts = w.puts }

-- the bytes of a cell in the last of some records that puts it
abbrev pub newest : List Record → CellName → Option (List ℕ)
newest [] name = None
newest (r ∷ rs) name = option_or (newest rs name) (last_put r.puts name)

-- the numbers rise by one, from this one on, and no record puts a cell twice
abbrev pub AreInOrder : ℕ → List Waiting → Type 0
AreInOrder n [] = Unit {0}
AreInOrder n (w ∷ ws) = (w.number ≡ n) × NoCellTwice w.puts × AreInOrder (n + 1) ws

-- the newest put of a cell is at this place
pub record IsNewestAt (records : List Waiting) (name : CellName) (p : Place) : Type 0 where
  pub before : List Waiting
  pub waiting : Waiting
  pub after : List Waiting
  pub parts : records ≡ before ++ waiting ∷ after
  pub number : waiting.number ≡ p.number
  pub put : Put
  pub there : slice_get waiting.puts p.at ≡ Some put
  pub name_is : put.name ≡ name
  pub last : newest (map record_of after) name ≡ None

-- what is known of a cell by its place in the map, if it has one
abbrev pub IsPlaceOf : List Waiting → CellName → Option Place → Type 0
IsPlaceOf records name None = newest (map record_of records) name ≡ None
IsPlaceOf records name (Some p) = IsNewestAt records name p

-- The cells that the records put are known, each with the place of its newest put, and no others.
pub record AreInPlaces {S : Type 0} (records : List Waiting) (places : HashMap CellName Place S) : Type 0 where
  pub first : ℕ
  pub from_one : 1 ≤ first
  pub order : AreInOrder first records
  pub known : (name : CellName) → IsPlaceOf records name (get same_cell places name)
