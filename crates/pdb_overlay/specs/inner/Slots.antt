-- Places by key, of which some keys have an empty slot.
use Rattle.std.specs.Prelude.{◌≡◌, ℕ, ◌==◌, List, Option, Some, None, IsSome, Vec, cond, if◌then◌else◌}
use Rattle.std.specs.BTreeMap.{BTreeMap, get_by}
use Rattle.std.specs.Cmp.Lexicographic.{slice_cmp}
use Rattle.std.specs.Ordering.{nat_cmp}
use Rattle.std.specs.Str.{bytes_eq}
use Rattle.std.specs.declared.alloc.Global.{Global}
use Rattle.pdb_overlay.specs.declared.place.Place.{Place}

abbrev pub Slots : Type 0
Slots = BTreeMap (Vec ℕ Global) (Option Place)

-- the slot of a key, if it has one
abbrev pub slot_of : Slots → List ℕ → Option (Option Place)
slot_of slots key = get_by (λ k. slice_cmp nat_cmp key k.items) slots

abbrev pub place_in_slot : Option (Option Place) → Option Place
place_in_slot None = None
place_in_slot (Some slot) = slot

-- the place under a key
abbrev pub place_under : Slots → List ℕ → Option Place
place_under slots key = place_in_slot (slot_of slots key)

abbrev pub HasSlot : Slots → List ℕ → Type 0
HasSlot slots key = IsSome (slot_of slots key)

-- each key with a slot keeps one
abbrev pub KeepsSlots : Slots → Slots → Type 0
KeepsSlots a b = (q : List ℕ) → HasSlot a q → HasSlot b q

-- they hold the same
abbrev pub HoldsSame : Slots → Slots → Type 0
HoldsSame a b = (q : List ℕ) → place_under b q ≡ place_under a q

-- the second holds under the key what f makes of what the first holds there, and the same elsewhere
abbrev pub ChangesKey : (Option Place → Option Place) → Slots → List ℕ → Slots → Type 0
ChangesKey f a key b = (q : List ℕ) → place_under b q ≡ cond (bytes_eq key q) (f (place_under a q)) (place_under a q)

-- a place that is in the commit of this number is taken away
abbrev pub without : ℕ → Option Place → Option Place
without number None = None
without number (Some p) = if p.number == number then None else Some p
