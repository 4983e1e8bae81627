-- What the slots of a table hold after a value is placed.
use Rattle.std.proofs.Common.{◌≡◌, ◌+◌, ◌==◌, if◌then◌else◌, ℕ, suc, List, [], Some, length, refl, sym, ap, subst, ◌∙◌, arith, inl, inr}
use Rattle.std.proofs.lemmas.Bool.Decides.{eqb_tells}
use Rattle.std.specs.List.{position}
use Rattle.std.specs.Prelude.{slice_get, slice_index}
use Rattle.pdb_model.specs.Tables.{Slot, Whole, Parted, Part, Loose, Table, IsTable, IsSettled, bytes_of_part, held, holding, holding_parts, next_slot, part_at, part_count, placed, placed_in, slots_of, slots_taken, taken, taken_many}
use Rattle.pdb_model.specs.Tiers.{parts_tier, tier_of}
use Rattle.pdb_column.proofs.Cases.{elsewhere, same_or, there}
use Rattle.pdb_column.proofs.Held.{Changes, whole_settled}
use Rattle.pdb_value.proofs.Places.{At, Nowhere, stands}
use Rattle.pdb_column.proofs.Taken.{old_kept, part_open, table_open}

-- ---- a value's table is of its tier

pub one_slot : (len : ℕ) → (tier_of len ≡ parts_tier → ⊥) → slots_of len ≡ 1
one_slot len ne = same_or (tier_of len) parts_tier (λ b. (if b then 1 + part_count len else 1) ≡ 1) (λ e. absurd (ne e)) (λ _. refl)

pub many_slots : (len : ℕ) → tier_of len ≡ parts_tier → slots_of len ≡ suc (part_count len)
many_slots len e = same_or (tier_of len) parts_tier (λ b. (if b then 1 + part_count len else 1) ≡ suc (part_count len)) (λ _. omega arith) (λ ne. absurd (ne e))

pub placed_whole : (t : Table) (key : List ℕ) (count : ℕ) (value : List ℕ) → (tier_of (length value) ≡ parts_tier → ⊥)
    → placed t key count value ≡ holding (taken t) (next_slot t.free t.end) key count value
placed_whole t key count value ne =
    ap (λ n. placed_in (taken_many n t) key count value (slots_taken n t)) (one_slot (length value) ne)
    ∙ same_or (tier_of (length value)) parts_tier
    (λ b. (if b then holding_parts (taken t) (next_slot t.free t.end) key count value [] else holding (taken t) (next_slot t.free t.end) key count value) ≡ holding (taken t) (next_slot t.free t.end) key count value)
    (λ e. absurd (ne e)) (λ _. refl)

pub placed_parts : (t : Table) (key : List ℕ) (count : ℕ) (value : List ℕ) → tier_of (length value) ≡ parts_tier
    → placed t key count value ≡ holding_parts (taken_many (suc (part_count (length value))) t) (next_slot t.free t.end) key count value (slots_taken (part_count (length value)) (taken t))
placed_parts t key count value e =
    ap (λ n. placed_in (taken_many n t) key count value (slots_taken n t)) (many_slots (length value) e)
    ∙ same_or (tier_of (length value)) parts_tier
    (λ b. (if b then holding_parts (taken_many (suc (part_count (length value))) t) (next_slot t.free t.end) key count value (slots_taken (part_count (length value)) (taken t))
    else holding (taken_many (suc (part_count (length value))) t) (next_slot t.free t.end) key count value)
    ≡ holding_parts (taken_many (suc (part_count (length value))) t) (next_slot t.free t.end) key count value (slots_taken (part_count (length value)) (taken t)))
    (λ _. refl) (λ ne. absurd (ne e))

parted_settled : (key : List ℕ) (count : ℕ) (value parts : List ℕ) → Parted key count value parts ≡ Loose → ⊥
parted_settled key count value parts e = cc

part_settled : (h j : ℕ) (bytes : List ℕ) (next : ℕ) → Part h j bytes next ≡ Loose → ⊥
part_settled h j bytes next e = cc

-- ---- a whole value

whole_changes : (t : Table) (key : List ℕ) (count : ℕ) (value : List ℕ) → IsSettled t
    → IsTable (holding (taken t) (next_slot t.free t.end) key count value)
    → Changes t (holding (taken t) (next_slot t.free t.end) key count value) (next_slot t.free t.end) (Some (record { key = key; count = count; value = value }))
whole_changes t key count value settled is =
    let s : ℕ = next_slot t.free t.end in record {
      is = is;
      settled = λ i. same_or i s (λ b. (if b then Whole key count value else (if b then Loose else t.slot i)) ≡ Loose → ⊥) (λ _. whole_settled key count value) (λ _. settled i);
      here = ap held (there (taken t).slot s (Whole key count value));
      others = λ i ne. ap held (elsewhere (taken t).slot s (Whole key count value) i ne ∙ elsewhere t.slot s Loose i ne);
    }

-- ---- a value in parts

-- what a slot is after that
data Becomes (t : Table) (h : ℕ) (key : List ℕ) (count : ℕ) (value parts : List ℕ) (i : ℕ) (x : Slot) : Type 0 where
  IsTop : i ≡ h → x ≡ Parted key count value parts → Becomes t h key count value parts i x
  IsOne : (j : ℕ) → (i ≡ h → ⊥) → slice_get parts j ≡ Some i → x ≡ Part h j (bytes_of_part value j) (slice_index parts (j + 1)) → Becomes t h key count value parts i x
  IsOld : (i ≡ h → ⊥) → ((j : ℕ) → slice_get parts j ≡ Some i → ⊥) → x ≡ t.slot i → Becomes t h key count value parts i x

becomes : (t : Table) (h : ℕ) (key : List ℕ) (count : ℕ) (value parts : List ℕ) (i : ℕ)
    → Becomes t h key count value parts i ((holding_parts t h key count value parts).slot i)
becomes t h key count value parts i =
    same_or i h (λ b. Becomes t h key count value parts i (if b then Parted key count value parts else part_at h value parts (t.slot i) (position (λ s. s == i) parts)))
    (λ e. IsTop e refl)
    (λ ne. elim (stands parts i) [
      | At j p got ↦ IsOne j ne got (ap (part_at h value parts (t.slot i)) p)
      | Nowhere p none ↦ IsOld ne none (ap (part_at h value parts (t.slot i)) p)
    ])

parts_changes : (t : Table) (n : ℕ) (key : List ℕ) (count : ℕ) (value : List ℕ) → IsTable t → IsSettled t
    → IsTable (holding_parts (taken_many (suc n) t) (next_slot t.free t.end) key count value (slots_taken n (taken t)))
    → Changes t (holding_parts (taken_many (suc n) t) (next_slot t.free t.end) key count value (slots_taken n (taken t))) (next_slot t.free t.end) (Some (record { key = key; count = count; value = value }))
parts_changes t n key count value before settled is =
    let h : ℕ = next_slot t.free t.end in
    let parts : List ℕ = slots_taken n (taken t) in
    let u : Table = taken_many (suc n) t in
    let o = table_open t before in record {
      is = is;
      settled = λ i loose. elim (becomes u h key count value parts i) [
        | IsTop e x ↦ parted_settled key count value parts (sym x ∙ loose)
        | IsOne j ne got x ↦ part_settled h j (bytes_of_part value j) (slice_index parts (j + 1)) (sym x ∙ loose)
        | IsOld ne none x ↦ settled i (sym (x ∙ old_kept t n i o ne none) ∙ loose)
      ];
      here = same_or h h (λ b. held (if b then Parted key count value parts else part_at h value parts (u.slot h) (position (λ s. s == h) parts)) ≡ Some (record { key = key; count = count; value = value }))
          (λ _. refl) (λ ne. absurd (ne refl));
      others = λ i other. elim (becomes u h key count value parts i) [
        | IsTop e x ↦ absurd (other e)
        | IsOne j ne got x ↦ ap held x ∙ sym (part_open t n i j o got)
        | IsOld ne none x ↦ ap held (x ∙ old_kept t n i o ne none)
      ];
    }

-- ---- either

pub placed_changes : (t : Table) (key : List ℕ) (count : ℕ) (value : List ℕ) → IsTable t → IsSettled t
    → IsTable (placed t key count value)
    → Changes t (placed t key count value) (next_slot t.free t.end) (Some (record { key = key; count = count; value = value }))
placed_changes t key count value before settled is =
    elim (eqb_tells (tier_of (length value)) parts_tier) [
      | inl h ↦
          let same = placed_parts t key count value h.1 in
          subst (λ u. Changes t u (next_slot t.free t.end) (Some (record { key = key; count = count; value = value }))) (sym same)
          (parts_changes t (part_count (length value)) key count value before settled (subst IsTable same is))
      | inr h ↦
          let same = placed_whole t key count value h.1 in
          subst (λ u. Changes t u (next_slot t.free t.end) (Some (record { key = key; count = count; value = value }))) (sym same)
          (whole_changes t key count value settled (subst IsTable same is))
    ]
