-- What freeing a value's first slot leaves to be freed.
use Rattle.std.proofs.Common.{◌≡◌, ◌-◌, ◌≤◌, ℕ, List, ◌∷◌, Some, length, drop, sym, ap, subst, ◌∙◌, arith, inl, inr, length-drop}
use Rattle.pdb_cells.specs.Content.{Content}
use Rattle.pdb_model.specs.Breaks.{HasEnd, IsBrokenHead}
use Rattle.pdb_model.specs.Files.{head_cell, table_cells}
use Rattle.pdb_model.specs.Heads.{IsHeadCell}
use Rattle.pdb_model.specs.Tables.{Table, Held, first, freed, freed_all, held, parts_of, removed}
use Rattle.pdb_model.specs.Tiers.{in_head, parts_tier}
use Rattle.pdb_value.specs.Faults.{FaultSays, HasTable, NoTier}
use Rattle.pdb_value.specs.Values.{AreFurtherParts, BreaksValue}
use Rattle.pdb_value.specs.declared.fault.ValueFault.{ValueFault}
use Rattle.pdb_value.specs.declared.fault.ValueFault.TheVariants.{Damaged, Disk, OutOfMemory, TierFull}
use Rattle.pdb_value.specs.inner.Loose.{AreLoose, loosened}
use Rattle.pdb_value.specs.inner.Steps.{IsFreed}
use Rattle.pdb_model.specs.Tables.{after}
use Rattle.pdb_value.proofs.Broken.{one_end}
use Rattle.pdb_value.proofs.Sound.{used_by}
use Rattle.pdb_value.proofs.Held.{end_is, held_head, held_is, held_whole, parts_held}
use Rattle.pdb_value.proofs.Loosened.{chain_kept, held_value, here_loose, loose_kept, loosened_spelled, parts_loose, removed_is}

-- the table after the first slot is freed
abbrev pub first_freed : Table → ℕ → Table
first_freed t s = freed (loosened t s) s

pub spelled_then : (before mid : Content) (column tier s : ℕ) (t : Table) (h : Held) → IsFreed column tier before mid s → HasTable before column tier t → held (t.slot s) ≡ Some h → HasTable mid column tier (first_freed t s)
spelled_then before mid column tier s t h f spells holds =
    f.table (loosened t s) (loosened_spelled tier (head_cell before column) (table_cells before column tier) t s (held_value (t.slot s) h holds) spells) (here_loose t s)

-- a whole value is removed with its slot
pub whole_removed : (before mid : Content) (column tier s : ℕ) (t : Table) (h : Held) → (tier ≡ 15 → ⊥) → IsFreed column tier before mid s → HasTable before column tier t → held (t.slot s) ≡ Some h
    → HasTable mid column tier (removed t s)
whole_removed before mid column tier s t h low f spells holds =
    elim (held_is (t.slot s) h holds) [
      | inl w ↦ subst (HasTable mid column tier) (sym (ap (λ x. freed_all (loosened t s) (s ∷ parts_of x)) w) ∙ removed_is t s spells.is) (spelled_then before mid column tier s t h f spells holds)
      | inr p ↦ absurd (low (held_head tier s (after s t.free) (t.slot s) (table_cells before column tier s) h.key h.count h.value p.0 p.1 (spells.slots s)).0)
    ]

-- what is left of a value in parts
pub record IsBegun (mid : Content) (column end next len : ℕ) (last : Table) : Type 0 where
  pub now : Table
  pub parts : List ℕ
  pub bytes : List ℕ
  pub spelled : HasTable mid column parts_tier now
  pub are : AreFurtherParts end (table_cells mid column parts_tier) parts bytes
  pub first_is : first parts ≡ next
  pub long : length bytes ≡ len - 4044
  pub loose : AreLoose now parts
  pub ends : freed_all now parts ≡ last

begun_at : (before mid : Content) (column s end next len : ℕ) (t : Table) (h : Held) → HasEnd before column parts_tier end → IsFreed column parts_tier before mid s → HasTable before column parts_tier t
    → held (t.slot s) ≡ Some h → len ≡ length h.value → next ≡ first (parts_of (t.slot s)) → IsBegun mid column end next len (removed t s)
begun_at before mid column s end next len t h has f spells holds l n =
    elim (held_is (t.slot s) h holds) [
      | inl w ↦ let whole = held_whole parts_tier s (after s t.free) (t.slot s) (table_cells before column parts_tier s) h.key h.count h.value w (spells.slots s) in let low = whole.not_parts in absurd (omega arith)
      | inr p ↦
          let same : end ≡ t.end = end_is before column parts_tier end t (omega arith) has spells in
          let are = subst (λ e. AreFurtherParts e (table_cells before column parts_tier) p.0 (drop in_head h.value)) (sym same) (parts_held parts_tier (head_cell before column) (table_cells before column parts_tier) t s h.key h.count h.value p.0 spells p.1) in
          let loose = parts_loose t s h.key h.count h.value p.0 spells.is (held_value (t.slot s) h holds) p.1 in
          record {
            now = first_freed t s;
            parts = p.0;
            bytes = drop in_head h.value;
            spelled = spelled_then before mid column parts_tier s t h f spells holds;
            are = chain_kept end (table_cells before column parts_tier) (table_cells mid column parts_tier) s p.0 (drop in_head h.value) f.others loose.1 are;
            first_is = ap (λ x. first (parts_of x)) (sym p.1) ∙ sym n;
            long = length-drop in_head h.value ∙ ap (λ n. n - 4044) (sym l);
            loose = loose_kept (loosened t s) s p.0 loose.1 loose.2;
            ends = sym (ap (λ x. freed_all (loosened t s) (s ∷ parts_of x)) p.1) ∙ removed_is t s spells.is;
          }
    ]

pub begun : (before mid : Content) (column tier s end next len : ℕ) (t : Table) (h : Held) → tier ≡ 15 → HasEnd before column tier end → IsFreed column tier before mid s → HasTable before column tier t
    → held (t.slot s) ≡ Some h → len ≡ length h.value → next ≡ first (parts_of (t.slot s)) → IsBegun mid column end next len (removed t s)
begun before mid column tier s end next len t h low has f spells holds l n =
    begun_at before mid column s end next len t h (subst (λ k. HasEnd before column k end) low has) (subst (λ k. IsFreed column k before mid s) low f) (subst (λ k. HasTable before column k t) low spells) holds l n

pub end_then : (before mid : Content) (column tier s end : ℕ) → tier ≤ 15 → HasEnd before column tier end → IsFreed column tier before mid s → HasEnd mid column tier end
end_then before mid column tier s end low has f = subst (HasEnd mid column tier) (one_end before column tier f.ends.0 end (omega arith) f.ends.1 has) f.ends.2

pub head_sound : (cells : Content) (column : ℕ) (P : ℕ → ℕ → Type 0) (e : ValueFault) → IsHeadCell (head_cell cells column) → FaultSays (IsBrokenHead cells column) NoTier e → FaultSays P NoTier e
head_sound cells column P OutOfMemory keeps h = tt
head_sound cells column P Disk keeps h = tt
head_sound cells column P (Damaged file cell) keeps h = absurd (h.broken keeps)
head_sound cells column P (TierFull tier) keeps h = h

pub of_tier : (P : Content → Type 0) (column tier : ℕ) (e : ValueFault) → tier ≡ 15
    → FaultSays (λ file cell. (x : Content) × P x × BreaksValue x column parts_tier file cell) NoTier e → FaultSays (λ file cell. (x : Content) × P x × BreaksValue x column tier file cell) NoTier e
of_tier P column tier e low h = subst (λ k. FaultSays (λ file cell. (x : Content) × P x × BreaksValue x column k file cell) NoTier e) (sym low) h

pub slot_within : (cells : Content) (column tier s end : ℕ) (t : Table) (h : Held) → tier ≤ 15 → HasEnd cells column tier end → HasTable cells column tier t → held (t.slot s) ≡ Some h → s ≤ end
slot_within cells column tier s end t h low has spells holds =
    subst (λ e. s ≤ e) (sym (end_is cells column tier end t (omega arith) has spells)) (used_by t s spells.is (held_value (t.slot s) h holds).some).1

pub within_end : (cells : Content) (column tier s end : ℕ) → tier ≤ 15 → HasEnd cells column tier end → s ≤ end → (e : ℕ) → HasEnd cells column tier e → s ≤ e
within_end cells column tier s end low has within e other = subst (λ e. s ≤ e) (one_end cells column tier end e (omega arith) has other) within
