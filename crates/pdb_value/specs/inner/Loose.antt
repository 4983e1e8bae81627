-- A value that is let go, and the slots that are freed then.
use Rattle.std.specs.Prelude.{◌≡◌, ◌==◌, ℕ, List, [], ◌∷◌, if◌then◌else◌}
use Rattle.pdb_model.specs.Tables.{Free, Loose, Outside, Part, Parted, Slot, Table, Whole, times}

-- a slot where the parts of one head are between the steps of a change
abbrev pub without_parts : ℕ → Slot → Slot
without_parts h (Whole key count value) = Whole key count value
without_parts h (Parted key count value parts) = Parted key count value parts
without_parts h (Part head place bytes next) = if head == h then Loose else Part head place bytes next
without_parts h Free = Free
without_parts h Loose = Loose
without_parts h Outside = Outside

-- the table where a value's slots are between the steps of a change
abbrev pub loosened : Table → ℕ → Table
loosened t h = record t { slot = λ i. if i == h then Loose else without_parts h (t.slot i) }

-- these slots are between the steps of a change, and each is listed once
abbrev pub AreLoose : Table → List ℕ → Type 0
AreLoose t [] = Unit {0}
AreLoose t (s ∷ rest) = (t.slot s ≡ Loose) × (times s rest ≡ 0) × AreLoose t rest
