-- A value is let go, and its slots are freed.
use Rattle.std.proofs.Common.{◌≡◌, ◌≢◌, ◌+◌, ◌-◌, ◌≤◌, ◌==◌, Bool, true, false, if◌then◌else◌, ℕ, zero, suc, List, [], ◌∷◌, Some, length, take, drop, min, refl, sym, ap, subst, ◌∙◌, arith, inl, inr, length-drop}
use Rattle.std.specs.Prelude.{slice_get, slice_index}
use Rattle.pdb_cells.specs.Content.{Content}
use Rattle.pdb_model.specs.Breaks.{HasEnd, IsNoPart}
use Rattle.pdb_model.specs.Files.{table_cells}
use Rattle.pdb_model.specs.Slots.{IsPart}
use Rattle.pdb_model.specs.Tables.{Slot, Whole, Parted, Part, Free, Loose, Outside, Table, Held, IsTable, IsSlot, Lists, SpellsTable, after, bytes_of_part, first, freed, freed_all, held, parts_of, removed, times, times_free}
use Rattle.pdb_model.specs.Tiers.{in_part, parts_tier}
use Rattle.pdb_value.specs.Faults.{FaultSays, HasTable, NoCell, NoTier}
use Rattle.pdb_value.specs.declared.fault.ValueFault.{ValueFault}
use Rattle.pdb_value.specs.declared.fault.ValueFault.TheVariants.{Damaged, Disk, OutOfMemory, TierFull}
use Rattle.pdb_value.specs.inner.Parts.{IsBrokenPart}
use Rattle.pdb_value.proofs.Chains.{HasPart, has_part, part_stands}
use Rattle.pdb_value.proofs.Layouts.{one_part}
use Rattle.pdb_value.specs.Values.{AreFurtherParts, BreaksValue}
use Rattle.pdb_value.specs.inner.Loose.{AreLoose, loosened, without_parts}
use Rattle.pdb_value.specs.inner.Steps.{IsFreed}
use Rattle.pdb_value.proofs.Broken.{one_end}
use Rattle.pdb_value.proofs.Held.{held_is}
use Rattle.pdb_value.proofs.Lists.{drop_got}
use Rattle.pdb_value.proofs.Sound.{elsewhere, same_or, there}

-- ---- the value is let go

free_without : (h : ℕ) (x : Slot) → times_free x ≡ times_free (without_parts h x)
free_without h (Whole key count value) = refl
free_without h (Parted key count value parts) = refl
free_without h (Part head place bytes next) = elim (head == h) as (λ b. 0 ≡ times_free (if b then Loose else Part head place bytes next)) [ true ↦ refl | false ↦ refl ]
free_without h Free = refl
free_without h Loose = refl
free_without h Outside = refl

no_outside : (b : Bool) (head place : ℕ) (bytes : List ℕ) (next : ℕ) → (if b then Loose else Part head place bytes next) ≡ Outside → ⊥
no_outside true head place bytes next e = cc
no_outside false head place bytes next e = cc

outside_left : (h : ℕ) (x : Slot) → without_parts h x ≡ Outside → x ≡ Outside
outside_left h (Whole key count value) e = cc
outside_left h (Parted key count value parts) e = cc
outside_left h (Part head place bytes next) e = absurd (no_outside (head == h) head place bytes next e)
outside_left h Free e = cc
outside_left h Loose e = cc
outside_left h Outside e = refl

no_head : (b : Bool) (head place : ℕ) (bytes : List ℕ) (next : ℕ) (key : List ℕ) (count : ℕ) (value parts : List ℕ) → (if b then Loose else Part head place bytes next) ≡ Parted key count value parts → ⊥
no_head true head place bytes next key count value parts e = cc
no_head false head place bytes next key count value parts e = cc

head_left : (h : ℕ) (x : Slot) (key : List ℕ) (count : ℕ) (value parts : List ℕ) → without_parts h x ≡ Parted key count value parts → x ≡ Parted key count value parts
head_left h (Whole k c v) key count value parts e = cc
head_left h (Parted k c v ps) key count value parts e = e
head_left h (Part head place bytes next) key count value parts e = absurd (no_head (head == h) head place bytes next key count value parts e)
head_left h Free key count value parts e = cc
head_left h Loose key count value parts e = cc
head_left h Outside key count value parts e = cc

the_part : (h head place : ℕ) (b : List ℕ) (n g j : ℕ) (bytes : List ℕ) (next : ℕ) → (if head == h then Loose else Part head place b n) ≡ Part g j bytes next
    → (Part head place b n ≡ Part g j bytes next) × ((g ≡ h) → ⊥)
the_part h head place b n g j bytes next =
    same_or head h (λ t. (if t then Loose else Part head place b n) ≡ Part g j bytes next → (Part head place b n ≡ Part g j bytes next) × ((g ≡ h) → ⊥))
    (λ is e. absurd (cc)) (λ ne e. (e, λ q. ne (let w : head ≡ g = cc in w ∙ q)))

part_left : (h : ℕ) (x : Slot) (g j : ℕ) (bytes : List ℕ) (next : ℕ) → without_parts h x ≡ Part g j bytes next → (x ≡ Part g j bytes next) × ((g ≡ h) → ⊥)
part_left h (Whole k c v) g j bytes next e = absurd (cc)
part_left h (Parted k c v ps) g j bytes next e = absurd (cc)
part_left h (Part head place b n) g j bytes next e = the_part h head place b n g j bytes next e
part_left h Free g j bytes next e = absurd (cc)
part_left h Loose g j bytes next e = absurd (cc)
part_left h Outside g j bytes next e = absurd (cc)

part_stays : (h g j : ℕ) (bytes : List ℕ) (next : ℕ) → ((g ≡ h) → ⊥) → without_parts h (Part g j bytes next) ≡ Part g j bytes next
part_stays h g j bytes next ne = same_or g h (λ t. (if t then Loose else Part g j bytes next) ≡ Part g j bytes next) (λ e. absurd (ne e)) (λ _. refl)

part_goes : (h j : ℕ) (bytes : List ℕ) (next : ℕ) → without_parts h (Part h j bytes next) ≡ Loose
part_goes h j bytes next = same_or h h (λ t. (if t then Loose else Part h j bytes next) ≡ Loose) (λ _. refl) (λ ne. absurd (ne refl))

lists_left : (h : ℕ) (x : Slot) (j i : ℕ) → Lists x j i → Lists (without_parts h x) j i
lists_left h (Whole k c v) j i l = l
lists_left h (Parted k c v ps) j i l = l
lists_left h (Part head place b next) j i l = absurd l
lists_left h Free j i l = absurd l
lists_left h Loose j i l = absurd l
lists_left h Outside j i l = absurd l

-- a slot that may be let go: a value's first one
pub record IsValue (x : Slot) : Type 0 where
  pub none : times_free x ≡ 0
  pub some : x ≡ Outside → ⊥
  pub no_part : (h j : ℕ) (bytes : List ℕ) (next : ℕ) → x ≡ Part h j bytes next → ⊥

whole_value : (key : List ℕ) (count : ℕ) (value : List ℕ) → IsValue (Whole key count value)
whole_value key count value = record { none = refl; some = λ e. cc; no_part = λ h j bytes next e. cc }

parted_value : (key : List ℕ) (count : ℕ) (value parts : List ℕ) → IsValue (Parted key count value parts)
parted_value key count value parts = record { none = refl; some = λ e. cc; no_part = λ h j bytes next e. cc }

pub held_value : (x : Slot) (h : Held) → held x ≡ Some h → IsValue x
held_value x h e = elim (held_is x h e) [ inl w ↦ subst IsValue (sym w) (whole_value h.key h.count h.value) | inr p ↦ subst IsValue (sym p.1) (parted_value h.key h.count h.value p.0) ]

abbrev loose_at : Table → ℕ → ℕ → Slot
loose_at t h i = if i == h then Loose else without_parts h (t.slot i)

pub here_loose : (t : Table) (h : ℕ) → loose_at t h h ≡ Loose
here_loose t h = same_or h h (λ b. (if b then Loose else without_parts h (t.slot h)) ≡ Loose) (λ _. refl) (λ ne. absurd (ne refl))

pub else_without : (t : Table) (h i : ℕ) → (i ≡ h → ⊥) → loose_at t h i ≡ without_parts h (t.slot i)
else_without t h i ne = same_or i h (λ b. (if b then Loose else without_parts h (t.slot i)) ≡ without_parts h (t.slot i)) (λ e. absurd (ne e)) (λ _. refl)

-- a slot that is something else than one between the steps is not the one let go
not_here : (t : Table) (h i : ℕ) (y : Slot) → (Loose ≡ y → ⊥) → loose_at t h i ≡ y → i ≡ h → ⊥
not_here t h i y other is e = other (sym (here_loose t h) ∙ (ap (loose_at t h) (sym e) ∙ is))

loose_parted : (key : List ℕ) (count : ℕ) (value parts : List ℕ) → Loose ≡ Parted key count value parts → ⊥
loose_parted key count value parts e = cc

loose_part : (h j : ℕ) (bytes : List ℕ) (next : ℕ) → Loose ≡ Part h j bytes next → ⊥
loose_part h j bytes next e = cc

loose_outside : Loose ≡ Outside → ⊥
loose_outside e = cc

pub loosened_sound : (t : Table) (h : ℕ) → IsTable t → IsValue (t.slot h) → IsTable (loosened t h)
loosened_sound t h is value = record {
  once = λ i. same_or i h (λ b. times i t.free ≡ times_free (if b then Loose else without_parts h (t.slot i)))
      (λ e. is.once i ∙ ap (λ k. times_free (t.slot k)) e ∙ value.none) (λ _. is.once i ∙ free_without h (t.slot i));
  above = λ i far. else_without t h i (λ e. value.some (ap t.slot (sym e) ∙ is.above i far)) ∙ ap (without_parts h) (is.above i far);
  from_one = else_without t h 0 (λ e. value.some (ap t.slot (sym e) ∙ is.from_one)) ∙ ap (without_parts h) is.from_one;
  narrow = is.narrow;
  within = λ i e some. is.within i (outside_left h (t.slot i) (sym (else_without t h i (not_here t h i Outside loose_outside e)) ∙ e)) some;
  parts = λ g key count value' parts e j s at.
      let ne : g ≡ h → ⊥ = not_here t h g (Parted key count value' parts) (loose_parted key count value' parts) e in
      let there = is.parts g key count value' parts (head_left h (t.slot g) key count value' parts (sym (else_without t h g ne) ∙ e)) j s at in
      else_without t h s (λ q. value.no_part g j (bytes_of_part value' j) (slice_index parts (j + 1)) (ap t.slot (sym q) ∙ there))
      ∙ (ap (without_parts h) there ∙ part_stays h g j (bytes_of_part value' j) (slice_index parts (j + 1)) ne);
  all_parts = λ g key count value' parts e.
      let ne : g ≡ h → ⊥ = not_here t h g (Parted key count value' parts) (loose_parted key count value' parts) e in
      is.all_parts g key count value' parts (head_left h (t.slot g) key count value' parts (sym (else_without t h g ne) ∙ e));
  owned = λ i g j bytes next e.
      let ne : i ≡ h → ⊥ = not_here t h i (Part g j bytes next) (loose_part g j bytes next) e in
      let left = part_left h (t.slot i) g j bytes next (sym (else_without t h i ne) ∙ e) in
      subst (λ x. Lists x j i) (sym (else_without t h g left.1)) (lists_left h (t.slot g) j i (is.owned i g j bytes next left.0));
}

slot_without : (tier h : ℕ) (x : Slot) (n : ℕ) (cell : List ℕ) → IsSlot tier x n cell → IsSlot tier (without_parts h x) n cell
slot_without tier h (Whole k c v) n cell s = s
slot_without tier h (Parted k c v ps) n cell s = s
slot_without tier h (Part head place bytes next) n cell s = elim (head == h) as (λ b. IsSlot tier (if b then Loose else Part head place bytes next) n cell) [ true ↦ tt | false ↦ s ]
slot_without tier h Free n cell s = s
slot_without tier h Loose n cell s = s
slot_without tier h Outside n cell s = s

pub loosened_spelled : (tier : ℕ) (head : List ℕ) (cells : ℕ → List ℕ) (t : Table) (h : ℕ) → IsValue (t.slot h) → SpellsTable tier head cells t → SpellsTable tier head cells (loosened t h)
loosened_spelled tier head cells t h value spells = record {
  is = loosened_sound t h spells.is value;
  ends = spells.ends;
  slots = λ i. elim (i == h) as (λ b. IsSlot tier (if b then Loose else without_parts h (t.slot i)) (after i t.free) (cells i)) [
    | true ↦ tt
    | false ↦ slot_without tier h (t.slot i) (after i t.free) (cells i) (spells.slots i)
  ];
}

-- ---- its slots are listed once

-- a number that isn't on a list
pub differs : (s r : ℕ) (rest : List ℕ) → times s (r ∷ rest) ≡ 0 → (r ≡ s → ⊥) × (times s rest ≡ 0)
differs s r rest e =
    same_or s r (λ b. (if b then 1 else 0) + times s rest ≡ 0 → (r ≡ s → ⊥) × (times s rest ≡ 0)) (λ _ q. absurd (omega arith)) (λ ne q. (λ h. ne (sym h), omega arith)) e

-- where each of a list from a place on is another number, that number isn't there
none_of : (s : ℕ) (parts rest : List ℕ) (j : ℕ) → drop j parts ≡ rest → ((k r : ℕ) → j ≤ k → slice_get parts k ≡ Some r → r ≡ s → ⊥) → times s rest ≡ 0
none_of s parts [] j from other = refl
none_of s parts (r ∷ rest) j from other =
    let at = drop_got parts j r rest from in
    let tail = none_of s parts rest (j + 1) at.1 (λ k q far get. other k q (omega arith) get) in
    same_or s r (λ b. (if b then 1 else 0) + times s rest ≡ 0) (λ e. absurd (other j r (omega arith) at.0 (sym e))) (λ _. omega arith)

one_place : (h j k : ℕ) (b c : List ℕ) (n m : ℕ) → Part h j b n ≡ Part h k c m → j ≡ k
one_place h j k b c n m e = cc

loose_from : (t : Table) (h : ℕ) (key : List ℕ) (count : ℕ) (value parts : List ℕ) → IsTable t → IsValue (t.slot h) → t.slot h ≡ Parted key count value parts
    → (rest : List ℕ) (j : ℕ) → drop j parts ≡ rest → AreLoose (loosened t h) rest
loose_from t h key count value parts is val there [] j from = tt
loose_from t h key count value parts is val there (s ∷ rest) j from =
    let at = drop_got parts j s rest from in
    let part = is.parts h key count value parts there j s at.0 in (
      else_without t h s (λ q. val.no_part h j (bytes_of_part value j) (slice_index parts (j + 1)) (ap t.slot (sym q) ∙ part)) ∙ (ap (without_parts h) part ∙ part_goes h j (bytes_of_part value j) (slice_index parts (j + 1))),
      none_of s parts rest (j + 1) at.1 (λ k r far get e.
          let other = is.parts h key count value parts there k r get in
          let same : j ≡ k = one_place h j k (bytes_of_part value j) (bytes_of_part value k) (slice_index parts (j + 1)) (slice_index parts (k + 1)) (sym part ∙ (ap t.slot (sym e) ∙ other)) in omega arith),
      loose_from t h key count value parts is val there rest (j + 1) at.1,
    )

pub parts_loose : (t : Table) (h : ℕ) (key : List ℕ) (count : ℕ) (value parts : List ℕ) → IsTable t → IsValue (t.slot h) → t.slot h ≡ Parted key count value parts → AreLoose (loosened t h) (h ∷ parts)
parts_loose t h key count value parts is val there = (
  here_loose t h,
  none_of h parts parts 0 refl (λ k r far get e. val.no_part h k (bytes_of_part value k) (slice_index parts (k + 1)) (ap t.slot (sym e) ∙ is.parts h key count value parts there k r get)),
  loose_from t h key count value parts is val there parts 0 refl,
)

pub loose_kept : (t : Table) (s : ℕ) (rest : List ℕ) → times s rest ≡ 0 → AreLoose t rest → AreLoose (freed t s) rest
loose_kept t s [] none loose = tt
loose_kept t s (r ∷ rest) none loose = let d = differs s r rest none in (elsewhere t.slot s Free r d.0 ∙ loose.0, loose.1, loose_kept t s rest d.1 loose.2)

pub chain_kept : (end : ℕ) (before after : ℕ → List ℕ) (s : ℕ) (rest bytes : List ℕ) → ((i : ℕ) → i ≢ s → after i ≡ before i) → times s rest ≡ 0 → AreFurtherParts end before rest bytes → AreFurtherParts end after rest bytes
chain_kept end before after s [] bytes others none are = are
chain_kept end before after s (r ∷ rest) bytes others none are =
    let d = differs s r rest none in
    (are.0, are.1, are.2, subst (λ (c : List ℕ). IsPart c (first rest) (take in_part bytes)) (sym (others r d.0)) are.3, chain_kept end before after s rest (drop in_part bytes) others d.1 are.4)

-- ---- the table after its slots are freed

pub same_freed : (list : List ℕ) (t u : Table) → t.free ≡ u.free → t.end ≡ u.end → ((i : ℕ) → times i list ≡ 0 → t.slot i ≡ u.slot i) → freed_all t list ≡ freed_all u list
same_freed [] t u f e same = λ k. record { slot = λ i. same i refl k; free = f k; end = e k }
same_freed (s ∷ rest) t u f e same = same_freed rest (freed t s) (freed u s) (ap (λ l. s ∷ l) f) e (λ i none.
    same_or i s (λ b. (if b then Free else t.slot i) ≡ (if b then Free else u.slot i)) (λ _. refl)
    (λ ne. same i (same_or i s (λ b. (if b then 1 else 0) + times i rest ≡ 0) (λ q. absurd (ne q)) (λ _. omega arith))))

slot_same : (h : ℕ) (x : Slot) → ((j : ℕ) (bytes : List ℕ) (next : ℕ) → x ≡ Part h j bytes next → ⊥) → without_parts h x ≡ x
slot_same h (Whole k c v) none = refl
slot_same h (Parted k c v ps) none = refl
slot_same h (Part head place bytes next) none =
    same_or head h (λ b. (if b then Loose else Part head place bytes next) ≡ Part head place bytes next) (λ e. absurd (none place bytes next (ap (λ k. Part k place bytes next) e))) (λ _. refl)
slot_same h Free none = refl
slot_same h Loose none = refl
slot_same h Outside none = refl

got_times : (parts : List ℕ) (j i : ℕ) → slice_get parts j ≡ Some i → 1 ≤ times i parts
got_times [] j i e = absurd (cc)
got_times (x ∷ xs) zero i e = let q : x ≡ i = cc in same_or i x (λ b. 1 ≤ (if b then 1 else 0) + times i xs) (λ _. omega arith) (λ ne. absurd (ne (sym q)))
got_times (x ∷ xs) (suc j) i e = let n = got_times xs j i e in omega arith

lists_times : (h : ℕ) (x : Slot) (j i : ℕ) → Lists x j i → 1 ≤ times i (parts_of x)
lists_times h (Whole k c v) j i l = absurd l
lists_times h (Parted k c v ps) j i l = got_times ps j i l
lists_times h (Part head place b next) j i l = absurd l
lists_times h Free j i l = absurd l
lists_times h Loose j i l = absurd l
lists_times h Outside j i l = absurd l

pub removed_is : (t : Table) (h : ℕ) → IsTable t → freed_all (loosened t h) (h ∷ parts_of (t.slot h)) ≡ removed t h
removed_is t h is = same_freed (h ∷ parts_of (t.slot h)) (loosened t h) t refl refl (λ i none.
    let d = differs i h (parts_of (t.slot h)) none in
    else_without t h i (λ e. d.0 (sym e)) ∙ slot_same h (t.slot i) (λ j bytes next e. let l = lists_times h (t.slot h) j i (is.owned i h j bytes next e) in let z = d.1 in omega arith))

-- what is left to free ends as the whole does
pub record IsLeft (cells : Content) (column slot left end : ℕ) (last : Table) : Type 0 where
  pub now : Table
  pub rest : List ℕ
  pub bytes : List ℕ
  pub has_end : HasEnd cells column parts_tier end
  pub spelled : HasTable cells column parts_tier now
  pub are : AreFurtherParts end (table_cells cells column parts_tier) rest bytes
  pub next : first rest ≡ slot
  pub long : length bytes ≡ left
  pub loose : AreLoose now rest
  pub ends : freed_all now rest ≡ last

rest_loose : (t : Table) (rest others : List ℕ) (s : ℕ) → rest ≡ s ∷ others → AreLoose t rest → (t.slot s ≡ Loose) × (times s others ≡ 0) × AreLoose t others
rest_loose t rest others s e loose = subst (AreLoose t) e loose

pub left_step : (before after : Content) (column slot next left here end : ℕ) (last : Table) → column ≤ 1 → IsLeft before column slot left end last → 1 ≤ left → here ≡ min left 4088
    → IsFreed column parts_tier before after slot → (bytes : List ℕ) × IsPart (table_cells before column parts_tier slot) next bytes → IsLeft after column next (left - here) end last
left_step before after column slot next left here end last c l some h f part =
    let has = has_part end (table_cells before column parts_tier) slot left l.rest l.bytes l.are l.next l.long some in
    let loose = rest_loose l.now l.rest has.rest slot has.is l.loose in
    let same = one_part (table_cells before column parts_tier slot) part.0 (take in_part l.bytes) next (first has.rest) part.1 has.part in
    record {
      now = freed l.now slot;
      rest = has.rest;
      bytes = drop in_part l.bytes;
      has_end = subst (HasEnd after column parts_tier) (one_end before column parts_tier f.ends.0 end (omega arith) f.ends.1 l.has_end) f.ends.2;
      spelled = f.table l.now l.spelled loose.0;
      are = chain_kept end (table_cells before column parts_tier) (table_cells after column parts_tier) slot has.rest (drop in_part l.bytes) f.others loose.1 has.others;
      next = sym same.next_is;
      long = length-drop in_part l.bytes ∙ (let n = l.long in omega arith);
      loose = loose_kept l.now slot has.rest loose.1 loose.2;
      ends = sym (ap (freed_all l.now) has.is) ∙ l.ends;
    }

no_rest : (end : ℕ) (cells : ℕ → List ℕ) (rest bytes : List ℕ) → AreFurtherParts end cells rest bytes → length bytes ≡ 0 → rest ≡ []
no_rest end cells [] bytes are n = refl
no_rest end cells (s ∷ rest) bytes are n = let some = are.0 in absurd (omega arith)

-- nothing is left
pub none_left : (cells : Content) (column slot left end : ℕ) (last : Table) → IsLeft cells column slot left end last → left ≡ 0 → HasTable cells column parts_tier last
none_left cells column slot left end last l done =
    let none = no_rest end (table_cells cells column parts_tier) l.rest l.bytes l.are (l.long ∙ done) in
    subst (HasTable cells column parts_tier) (sym (ap (freed_all l.now) none) ∙ l.ends) l.spelled

pub freed_broken : (P : Content → Type 0) (now : Content) (column slot left end : ℕ) (e : ValueFault) → 1 ≤ left → HasEnd now column parts_tier end
    → FaultSays (λ file cell. P now × IsBrokenPart now column slot left end file cell) NoTier e
    → FaultSays (λ file cell. (after : Content) × P after × BreaksValue after column parts_tier file cell) NoTier e
freed_broken P now column slot left end OutOfMemory some has h = tt
freed_broken P now column slot left end Disk some has h = tt
freed_broken P now column slot left end (Damaged file cell) some has h =
    (now, h.0, inr (h.1.0, (end, has, inr (inr (left, some, refl, subst (λ (b : List ℕ). IsNoPart left end b) (ap (λ k. table_cells now column parts_tier k) (sym h.1.1) ∙ ap (λ k. now k cell) (sym h.1.0)) h.1.2)))))
freed_broken P now column slot left end (TierFull tier) some has h = h

pub freed_sound : (D : Type 0) (now : Content) (column slot left end : ℕ) (parts bytes : List ℕ) (e : ValueFault) → HasPart end (table_cells now column parts_tier) slot left parts bytes
    → FaultSays (λ file cell. D × IsBrokenPart now column slot left end file cell) NoTier e → FaultSays NoCell NoTier e
freed_sound D now column slot left end parts bytes OutOfMemory has h = tt
freed_sound D now column slot left end parts bytes Disk has h = tt
freed_sound D now column slot left end parts bytes (Damaged file cell) has h = part_stands end (table_cells now column parts_tier) slot left parts bytes has h.1.2
freed_sound D now column slot left end parts bytes (TierFull tier) has h = h
