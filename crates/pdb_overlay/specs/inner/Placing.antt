-- Where the newest operations of keys are.
use Rattle.std.specs.Prelude.{◌≡◌, ℕ, suc, ◌+◌, ◌<◌, ◌^◌, ◌==◌, Bool, List, [], ◌∷◌, length, Option, Some, None, is_some, cond, if◌then◌else◌}
use Rattle.std.specs.Option.{option_map, option_or}
use Rattle.sdb_base.specs.declared.op.Op.{Op}
use Rattle.sdb_base.specs.declared.op.Op.TheVariants.{AddRef, DropRef, Put, Erase}
use Rattle.pdb_overlay.specs.Lending.{Bytes, Erased, Said, says}
use Rattle.pdb_overlay.specs.inner.Slots.{HasSlot, place_under, without}
use Rattle.pdb_overlay.specs.declared.place.Place.{Place}
use Rattle.pdb_overlay.specs.declared.places.Places.{Places}

-- what an operation says of its own key
abbrev pub said_by : Op → Option Said
said_by (AddRef key bytes) = Some (Bytes bytes)
said_by (DropRef key) = None
said_by (Put key bytes) = Some (Bytes bytes)
said_by (Erase key) = Some Erased

-- whether an operation says something of a key
abbrev pub speaks : ℕ → List ℕ → Op → Bool
speaks column key op = is_some (says column key op)

-- the place among operations of the newest that says something of a key
abbrev pub newest_at : ℕ → List ℕ → List Op → Option ℕ
newest_at column key [] = None
newest_at column key (op ∷ ops) = option_or (option_map suc (newest_at column key ops)) (if speaks column key op then Some 0 else None)

-- the place of the newest operation of a key in the commit of this number
abbrev pub place_in_commit : ℕ → ℕ → List ℕ → List Op → Option Place
place_in_commit number column key ops = option_map (λ at. record { number = number; at = at }) (newest_at column key ops)

-- its place in commits that are numbered from this number on
abbrev pub newest_place : ℕ → ℕ → List ℕ → List (List Op) → Option Place
newest_place first column key [] = None
newest_place first column key (ops ∷ rest) = option_or (newest_place (first + 1) column key rest) (place_in_commit first column key ops)

-- the place that is kept of a key of a column
abbrev pub place_at : Places → ℕ → List ℕ → Option Place
place_at p column key = if column == 0 then place_under p.nodes.slots key else if column == 1 then place_under p.plain.slots key else None

-- the place of each key is kept, and there are numbers left
pub record AreFound (first : ℕ) (commits : List (List Op)) (places : Places) : Type 0 where
  pub fits : first + length commits < 2 ^ 64
  pub found : (column : ℕ) (key : List ℕ) → place_at places column key ≡ newest_place first column key commits

-- ---- what steps make of places

-- the operation's place can be set without taking memory
abbrev pub HasSlotFor : Places → Op → Type 0
HasSlotFor p (AddRef key bytes) = HasSlot p.nodes.slots key.0
HasSlotFor p (DropRef key) = Unit {0}
HasSlotFor p (Put key bytes) = HasSlot p.plain.slots key
HasSlotFor p (Erase key) = HasSlot p.plain.slots key

abbrev pub KeepsRoom : Places → Places → Type 0
KeepsRoom a b = (op : Op) → HasSlotFor a op → HasSlotFor b op

abbrev pub SamePlaces : Places → Places → Type 0
SamePlaces a b = (column : ℕ) (key : List ℕ) → place_at b column key ≡ place_at a column key

-- the second has, of a key of which the operation says something, what f makes of what the first has
abbrev pub Changes : (Option Place → Option Place) → Places → Op → Places → Type 0
Changes f a op b = (column : ℕ) (key : List ℕ) → place_at b column key ≡ cond (speaks column key op) (f (place_at a column key)) (place_at a column key)

-- the places of the operations of a commit are set
abbrev pub AreSet : ℕ → List Op → Places → Places → Type 0
AreSet number ops a b = (column : ℕ) (key : List ℕ) → place_at b column key ≡ option_or (place_in_commit number column key ops) (place_at a column key)

-- the places of these operations' keys are taken away where they are in the commit of this number
abbrev pub AreReleased : ℕ → List Op → Places → Places → Type 0
AreReleased number ops a b = (column : ℕ) (key : List ℕ)
    → place_at b column key ≡ cond (is_some (newest_at column key ops)) (without number (place_at a column key)) (place_at a column key)
