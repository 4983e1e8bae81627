-- A value gets another count.
use Rattle.std.proofs.Common.{◌≡◌, ◌+◌, ◌^◌, ◌<◌, ◌≤◌, if◌then◌else◌, ℕ, List, Some, length, take, refl, sym, ap, subst, ◌∙◌, arith, inl, inr}
use Rattle.std.specs.Prelude.{slice_index}
use Rattle.pdb_cells.specs.Content.{Content, put_cell}
use Rattle.pdb_model.specs.Files.{table_cells, table_file}
use Rattle.pdb_model.specs.Heads.{ends_at}
use Rattle.pdb_model.specs.Slots.{IsHeadOfParts, IsWhole, padded, whole_bytes}
use Rattle.pdb_model.specs.Tables.{Slot, Whole, Parted, Part, Free, Loose, Outside, Table, Held, IsTable, IsSlot, Lists, after, bytes_of_part, first, held, holding, part_count, recounted, times, times_free, with_count, with_slot}
use Rattle.pdb_model.specs.Tiers.{in_head, slot_size, tier_of}
use Rattle.pdb_value.specs.Faults.{HasTable}
use Rattle.pdb_value.specs.inner.Fields.{counted_bytes}
use Rattle.pdb_value.proofs.Held.{held_head, held_is, held_whole}
use Rattle.pdb_value.proofs.Layouts.{head_fields, whole_fields}
use Rattle.pdb_value.proofs.Sound.{same_or, whole_used}
use Rattle.pdb_value.proofs.Spelled.{hold_spelled, put_elsewhere, put_there, same_head}

free_same : (x : Slot) (n : ℕ) → times_free x ≡ times_free (with_count x n)
free_same (Whole key count value) n = refl
free_same (Parted key count value parts) n = refl
free_same (Part head place bytes next) n = refl
free_same Free n = refl
free_same Loose n = refl
free_same Outside n = refl

outside_back : (x : Slot) (n : ℕ) → with_count x n ≡ Outside → x ≡ Outside
outside_back (Whole key count value) n e = cc
outside_back (Parted key count value parts) n e = cc
outside_back (Part head place bytes next) n e = cc
outside_back Free n e = cc
outside_back Loose n e = cc
outside_back Outside n e = refl

parted_back : (x : Slot) (n : ℕ) (key : List ℕ) (count : ℕ) (value parts : List ℕ) → with_count x n ≡ Parted key count value parts → (m : ℕ) × (x ≡ Parted key m value parts)
parted_back (Whole k m v) n key count value parts e = absurd (cc)
parted_back (Parted k m v p) n key count value parts e =
    let a : k ≡ key = cc in let b : v ≡ value = cc in let d : p ≡ parts = cc in
    (m, ap (λ k. Parted k m v p) a ∙ (ap (λ v. Parted key m v p) b ∙ ap (Parted key m value) d))
parted_back (Part head place bytes next) n key count value parts e = absurd (cc)
parted_back Free n key count value parts e = absurd (cc)
parted_back Loose n key count value parts e = absurd (cc)
parted_back Outside n key count value parts e = absurd (cc)

part_back : (x : Slot) (n h j : ℕ) (bytes : List ℕ) (next : ℕ) → with_count x n ≡ Part h j bytes next → x ≡ Part h j bytes next
part_back (Whole k m v) n h j bytes next e = cc
part_back (Parted k m v p) n h j bytes next e = cc
part_back (Part head place b nx) n h j bytes next e = e
part_back Free n h j bytes next e = cc
part_back Loose n h j bytes next e = cc
part_back Outside n h j bytes next e = cc

lists_same : (x : Slot) (n j i : ℕ) → Lists x j i → Lists (with_count x n) j i
lists_same (Whole k m v) n j i l = l
lists_same (Parted k m v p) n j i l = l
lists_same (Part head place b nx) n j i l = l
lists_same Free n j i l = l
lists_same Loose n j i l = l
lists_same Outside n j i l = l

-- what holds of a slot with the count and without it holds of each slot of the table
each : (t : Table) (s n i : ℕ) (P : Slot → Type 0) → P (with_count (t.slot i) n) → P (t.slot i) → P (with_slot t.slot s (with_count (t.slot s) n) i)
each t s n i P a b = same_or i s (λ c. P (if c then with_count (t.slot s) n else t.slot i)) (λ e. subst (λ k. P (with_count (t.slot k) n)) e a) (λ _. b)

from_count : (t : Table) (s n i : ℕ) (y : Slot) (Q : Type 0) → with_slot t.slot s (with_count (t.slot s) n) i ≡ y → (with_count (t.slot i) n ≡ y → Q) → (t.slot i ≡ y → Q) → Q
from_count t s n i y Q e a b = same_or i s (λ c. (if c then with_count (t.slot s) n else t.slot i) ≡ y → Q) (λ k q. a (ap (λ k. with_count (t.slot k) n) k ∙ q)) (λ _. b) e

pub recount_sound : (t : Table) (s n : ℕ) → IsTable t → IsTable (recounted t s n)
recount_sound t s n is = record {
  once = λ i. each t s n i (λ x. times i t.free ≡ times_free x) (is.once i ∙ free_same (t.slot i) n) (is.once i);
  above = λ i far. let out = is.above i far in each t s n i (λ x. x ≡ Outside) (ap (λ x. with_count x n) out) out;
  from_one = each t s n 0 (λ x. x ≡ Outside) (ap (λ x. with_count x n) is.from_one) is.from_one;
  narrow = is.narrow;
  within = λ i e some. from_count t s n i Outside (t.end < i) e (λ q. is.within i (outside_back (t.slot i) n q) some) (λ q. is.within i q some);
  parts = λ h key count value parts e j i at. from_count t s n h (Parted key count value parts) _ e
      (λ q. let back = parted_back (t.slot h) n key count value parts q in let p = is.parts h key back.0 value parts back.1 j i at in
      each t s n i (λ x. x ≡ Part h j (bytes_of_part value j) (slice_index parts (j + 1))) (ap (λ x. with_count x n) p) p)
      (λ q. let p = is.parts h key count value parts q j i at in
      each t s n i (λ x. x ≡ Part h j (bytes_of_part value j) (slice_index parts (j + 1))) (ap (λ x. with_count x n) p) p);
  all_parts = λ h key count value parts e. from_count t s n h (Parted key count value parts) (length parts ≡ part_count (length value)) e
      (λ q. let back = parted_back (t.slot h) n key count value parts q in is.all_parts h key back.0 value parts back.1) (is.all_parts h key count value parts);
  owned = λ i h j bytes next e. from_count t s n i (Part h j bytes next) _ e
      (λ q. let l = is.owned i h j bytes next (part_back (t.slot i) n h j bytes next q) in each t s n h (λ x. Lists x j i) (lists_same (t.slot h) n j i l) l)
      (λ q. let l = is.owned i h j bytes next q in each t s n h (λ x. Lists x j i) (lists_same (t.slot h) n j i l) l);
}

-- the cell with another count
whole_counted : (tier : ℕ) (cell cell' key : List ℕ) (count n : ℕ) (value : List ℕ) → IsWhole tier cell key count value → 1 ≤ n → n < 2 ^ 64
    → ((kind len m : ℕ) (rest : List ℕ) → cell ≡ counted_bytes kind len m rest → cell' ≡ counted_bytes kind len n rest) → IsWhole tier cell' key n value
whole_counted tier cell cell' key count n value is some small set = record {
  spelled = set 1 (length value) count _ (is.spelled ∙ whole_fields (slot_size tier) key value count is.counted.key_len) ∙ sym (whole_fields (slot_size tier) key value n is.counted.key_len);
  counted = record { key_len = is.counted.key_len; some = some; narrow = small };
  lowest = is.lowest;
  not_parts = is.not_parts;
}

head_counted : (cell cell' key : List ℕ) (count n whole next : ℕ) (value : List ℕ) → IsHeadOfParts cell key count whole next value → 1 ≤ n → n < 2 ^ 64
    → ((kind len m : ℕ) (rest : List ℕ) → cell ≡ counted_bytes kind len m rest → cell' ≡ counted_bytes kind len n rest) → IsHeadOfParts cell' key n whole next value
head_counted cell cell' key count n whole next value is some small set = record {
  spelled = set 2 in_head count _ (is.spelled ∙ head_fields key value count whole next) ∙ sym (head_fields key value n whole next);
  counted = record { key_len = is.counted.key_len; some = some; narrow = small };
  full = is.full;
  long = is.long;
  not_too_long = is.not_too_long;
  narrow = is.narrow;
}

slot_counted : (tier s k : ℕ) (x : Slot) (h : Held) (cell cell' : List ℕ) (n : ℕ) → held x ≡ Some h → IsSlot tier x k cell → 1 ≤ n → n < 2 ^ 64
    → ((kind len m : ℕ) (rest : List ℕ) → cell ≡ counted_bytes kind len m rest → cell' ≡ counted_bytes kind len n rest) → IsSlot tier (with_count x n) k cell'
slot_counted tier s k x h cell cell' n holds is some small set =
    elim (held_is x h holds) [
      | inl w ↦ subst (λ x. IsSlot tier (with_count x n) k cell') (sym w) (whole_counted tier cell cell' h.key h.count n h.value (held_whole tier s k x cell h.key h.count h.value w is) some small set)
      | inr p ↦
          let head = held_head tier s k x cell h.key h.count h.value p.0 p.1 is in
          subst (λ x. IsSlot tier (with_count x n) k cell') (sym p.1) (head.0, head_counted cell cell' h.key h.count n (length h.value) (first p.0) (take in_head h.value) head.1 some small set)
    ]

pub recount_spelled : (cells : Content) (column tier s n : ℕ) (t : Table) (h : Held) (cell : List ℕ) → HasTable cells column tier t → held (t.slot s) ≡ Some h → 1 ≤ n → n < 2 ^ 64
    → ((kind len m : ℕ) (rest : List ℕ) → table_cells cells column tier s ≡ counted_bytes kind len m rest → cell ≡ counted_bytes kind len n rest)
    → HasTable (put_cell (table_file column tier) s cell cells) column tier (recounted t s n)
recount_spelled cells column tier s n t h cell spells holds some small set = record {
  is = recount_sound t s n spells.is;
  ends = ap (ends_at tier) (same_head column tier s cell cells) ∙ spells.ends;
  slots = λ i. same_or i s (λ b. IsSlot tier (if b then with_count (t.slot s) n else t.slot i) (after i t.free) (table_cells (put_cell (table_file column tier) s cell cells) column tier i))
      (λ e. subst (IsSlot tier (with_count (t.slot s) n) (after i t.free)) (sym (put_there column tier s i cell cells e))
      (slot_counted tier s (after i t.free) (t.slot s) h (table_cells cells column tier s) cell n holds (subst (λ k. IsSlot tier (t.slot k) (after i t.free) (table_cells cells column tier k)) e (spells.slots i)) some small set))
      (λ ne. subst (IsSlot tier (t.slot i) (after i t.free)) (sym (put_elsewhere column tier s i cell cells ne)) (spells.slots i));
}

-- a whole value's slot gets other bytes
pub replaced_spelled : (cells : Content) (column tier s : ℕ) (t : Table) (h : Held) (key : List ℕ) (count : ℕ) (bytes cell : List ℕ) → tier < 15 → tier ≡ tier_of (length bytes)
    → HasTable cells column tier t → held (t.slot s) ≡ Some h → key ≡ h.key → count ≡ h.count → cell ≡ padded (slot_size tier) (whole_bytes key count bytes)
    → HasTable (put_cell (table_file column tier) s cell cells) column tier (holding t s h.key h.count bytes)
replaced_spelled cells column tier s t h key count bytes cell low lowest spells holds k n wrote =
    elim (held_is (t.slot s) h holds) [
      | inl w ↦
          let whole = held_whole tier s (after s t.free) (t.slot s) (table_cells cells column tier s) h.key h.count h.value w (spells.slots s) in
          hold_spelled cells column tier s t h.key h.count bytes cell spells (whole_used t s h.key h.count h.value w) (record {
            spelled = wrote ∙ (ap (λ x. padded (slot_size tier) (whole_bytes x count bytes)) k ∙ ap (λ x. padded (slot_size tier) (whole_bytes h.key x bytes)) n);
            counted = whole.counted;
            lowest = lowest;
            not_parts = low;
          })
      | inr p ↦ let high = (held_head tier s (after s t.free) (t.slot s) (table_cells cells column tier s) h.key h.count h.value p.0 p.1 (spells.slots s)).0 in absurd (omega arith)
    ]
