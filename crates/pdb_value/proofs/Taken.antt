-- Slots are taken one after the other.
use Rattle.std.proofs.Common.{◌≡◌, ◌+◌, ◌-◌, ◌^◌, ◌<◌, ◌≤◌, ℕ, zero, suc, List, [], ◌∷◌, ◌++◌, refl, sym, ap, subst, ◌∙◌, arith}
use Rattle.pdb_cells.specs.Content.{Content}
use Rattle.pdb_model.specs.Breaks.{IsBrokenHead, IsNotFree}
use Rattle.pdb_model.specs.Files.{head_cell, table_cells, table_file}
use Rattle.pdb_model.specs.Heads.{IsHeadCell, ends_at, ends_bytes}
use Rattle.pdb_model.specs.Tables.{Slot, Table, IsTable, SpellsTable, first, next_slot, room_of, slots_taken, taken, taken_many}
use Rattle.pdb_model.specs.Tiers.{parts_tier}
use Rattle.pdb_value.specs.Faults.{BreaksFreeList, FaultSays, HasTable, IsFullTier, NoCell, NoTier}
use Rattle.pdb_value.specs.inner.Many.{AreTaken}
use Rattle.pdb_value.specs.inner.Steps.{IsSlotTaken}
use Rattle.pdb_value.specs.declared.fault.ValueFault.{ValueFault}
use Rattle.pdb_value.specs.declared.fault.ValueFault.TheVariants.{Damaged, Disk, OutOfMemory, TierFull}
use Rattle.pdb_value.proofs.Sound.{listed, here, table}
use Rattle.pdb_value.proofs.Spelled.{ends_are_read, first_is_free, only_itself, only_on}

pub unbroken_head : (cells : Content) (column : ℕ) (Q : ℕ → Type 0) (e : ValueFault) → IsHeadCell (head_cell cells column) → FaultSays (IsBrokenHead cells column) NoTier e → FaultSays NoCell Q e
unbroken_head cells column Q OutOfMemory keeps h = tt
unbroken_head cells column Q Disk keeps h = tt
unbroken_head cells column Q (Damaged file cell) keeps h = h.broken keeps
unbroken_head cells column Q (TierFull tier) keeps h = absurd h

empty_room : (slot : ℕ → Slot) (free : List ℕ) (end : ℕ) → IsTable (table slot free end) → first free ≡ 0 → end ≡ 2 ^ 32 - 1 → room_of (table slot free end) ≡ 0
empty_room slot [] end is f e = omega arith
empty_room slot (s ∷ rest) end is f e = let on = listed (table slot (s ∷ rest) end) s is (here s rest) in absurd (omega arith)

pub no_room : (cells : Content) (column tier : ℕ) (head : List ℕ) (free end : ℕ) (t : Table) → head ≡ head_cell cells column → HasTable cells column tier t → free < 2 ^ 32 → end < 2 ^ 32
    → ends_at tier head ≡ ends_bytes (record { free = free; end = end }) → free ≡ 0 → end ≡ 2 ^ 32 - 1 → room_of t ≡ 0
no_room cells column tier head free end t is spells f n said none last =
    let at = ends_are_read tier head (table_cells cells column tier) t free end (subst (λ h. SpellsTable tier h (table_cells cells column tier) t) (sym is) spells) f n said in
    empty_room t.slot t.free t.end spells.is (sym at.0 ∙ none) (sym at.1 ∙ last)

rest_within : (slot : ℕ → Slot) (s : ℕ) (rest : List ℕ) (end : ℕ) → IsTable (table slot (s ∷ rest) end) → first rest ≤ end
rest_within slot s [] end is = omega arith
rest_within slot s (r ∷ rest) end is = (listed (table slot (s ∷ (r ∷ rest)) end) r is (let h = here r rest in omega arith)).1

is_free_there : (tier : ℕ) (head : List ℕ) (cells : ℕ → List ℕ) (slot : ℕ → Slot) (free : List ℕ) (end : ℕ) → SpellsTable tier head cells (table slot free end) → 0 < first free → IsNotFree tier end (cells (first free)) → ⊥
is_free_there tier head cells slot [] end spells some none = omega arith
is_free_there tier head cells slot (s ∷ rest) end spells some none =
    let le = rest_within slot s rest end spells.is in
    let gt = none (first rest) (first_is_free tier head cells slot s rest end spells) in omega arith

pub first_free : (cells : Content) (column tier : ℕ) (head : List ℕ) (free end : ℕ) (t : Table) (Q : ℕ → Type 0) (e : ValueFault) → head ≡ head_cell cells column → HasTable cells column tier t → free < 2 ^ 32 → end < 2 ^ 32
    → ends_at tier head ≡ ends_bytes (record { free = free; end = end }) → 0 < free
    → FaultSays (λ file cell. (file ≡ table_file column tier) × (cell ≡ free) × IsNotFree tier end (table_cells cells column tier free)) NoTier e → FaultSays NoCell Q e
first_free cells column tier head free end t Q OutOfMemory is spells f n said some h = tt
first_free cells column tier head free end t Q Disk is spells f n said some h = tt
first_free cells column tier head free end t Q (Damaged file cell) is spells f n said some h =
    let at = ends_are_read tier head (table_cells cells column tier) t free end (subst (λ h. SpellsTable tier h (table_cells cells column tier) t) (sym is) spells) f n said in
    is_free_there tier (head_cell cells column) (table_cells cells column tier) t.slot t.free t.end spells (subst (λ n. 0 < n) at.0 some)
    (subst (λ n. IsNotFree tier t.end (table_cells cells column tier n)) at.0 (subst (λ n. IsNotFree tier n (table_cells cells column tier free)) at.1 h.2))
first_free cells column tier head free end t Q (TierFull u) is spells f n said some h = absurd h

-- ---- many slots

pub many_then : (n : ℕ) (t : Table) → taken_many (suc n) t ≡ taken (taken_many n t)
many_then zero t = refl
many_then (suc n) t = many_then n (taken t)

pub slots_then : (n : ℕ) (t : Table) → slots_taken (suc n) t ≡ slots_taken n t ++ next_slot (taken_many n t).free (taken_many n t).end ∷ []
slots_then zero t = refl
slots_then (suc n) t = ap (λ l. next_slot t.free t.end ∷ l) (slots_then n (taken t))

less_room : (slot : ℕ → Slot) (free : List ℕ) (end : ℕ) → IsTable (taken (table slot free end)) → room_of (taken (table slot free end)) + 1 ≡ room_of (table slot free end)
less_room slot [] end is = let n = is.narrow in omega arith
less_room slot (s ∷ rest) end is = omega arith

pub room_less : (t : Table) → IsTable (taken t) → room_of (taken t) + 1 ≡ room_of t
room_less t is = less_room t.slot t.free t.end is

omega_room : (a b c n m : ℕ) → a + 1 ≡ b → b + n ≡ c → m ≡ suc n → a + m ≡ c
omega_room a b c n m less so_far is = omega arith

full_room : (now all n k : ℕ) → now + k ≡ all → k < n → now ≡ 0 → all < n
full_room now all n k sum less none = omega arith

pub none_taken : (column : ℕ) (cells : Content) → AreTaken column 0 cells cells []
none_taken column cells = record {
  only = only_itself column parts_tier cells;
  head = λ h. absurd (omega arith);
  kept = λ h. h;
  table = λ t spells. spells;
  listed = λ t spells. refl;
  room = λ t spells. omega arith;
}

-- one slot more is taken
pub more_taken : (column n m : ℕ) (before mid after : Content) (slots : List ℕ) (slot : ℕ) → AreTaken column n before mid slots → IsSlotTaken column parts_tier mid after slot → m ≡ suc n
    → AreTaken column m before after (slots ++ slot ∷ [])
more_taken column n m before mid after slots slot all one is = record {
  only = only_on column parts_tier before mid after all.only one.only;
  head = λ _. one.head;
  kept = λ _. one.head;
  table = λ t spells. subst (HasTable after column parts_tier) (sym (ap (λ k. taken_many k t) is ∙ many_then n t)) (one.table (taken_many n t) (all.table t spells)).1;
  listed = λ t spells.
      ap (λ s. slots ++ s ∷ []) (one.table (taken_many n t) (all.table t spells)).0 ∙ (ap (λ l. l ++ next_slot (taken_many n t).free (taken_many n t).end ∷ []) (all.listed t spells)
      ∙ (sym (slots_then n t) ∙ ap (λ k. slots_taken k t) (sym is)));
  room = λ t spells.
      let step = one.table (taken_many n t) (all.table t spells) in
      let less = room_less (taken_many n t) step.1.is in
      let so_far = all.room t spells in
      let same : room_of (taken_many m t) ≡ room_of (taken (taken_many n t)) = ap room_of (ap (λ k. taken_many k t) is ∙ many_then n t) in
      subst (λ r. r + m ≡ room_of t) (sym same) (omega_room (room_of (taken (taken_many n t))) (room_of (taken_many n t)) (room_of t) n m less so_far is);
}

-- the faults after some slots were taken
pub then_faults : (P : Content → Type 0) (now : Content) (column : ℕ) (e : ValueFault) → P now → FaultSays (BreaksFreeList column parts_tier now) (λ u. (u ≡ parts_tier) × IsFullTier now column parts_tier) e
    → FaultSays (λ file cell. (x : Content) × P x × BreaksFreeList column parts_tier x file cell) (λ u. (x : Content) × P x × (u ≡ parts_tier) × IsFullTier x column parts_tier) e
then_faults P now column OutOfMemory p h = tt
then_faults P now column Disk p h = tt
then_faults P now column (Damaged file cell) p h = (now, p, h)
then_faults P now column (TierFull u) p h = (now, p, h.0, h.1)

pub then_sound : (t now : Table) (n k : ℕ) (e : ValueFault) → room_of now + k ≡ room_of t → k < n → FaultSays NoCell (λ u. (u ≡ parts_tier) × (room_of now ≡ 0)) e → FaultSays NoCell (λ u. (u ≡ parts_tier) × (room_of t < n)) e
then_sound t now n k OutOfMemory all less h = tt
then_sound t now n k Disk all less h = tt
then_sound t now n k (Damaged file cell) all less h = h
then_sound t now n k (TierFull u) all less h = (h.0, full_room (room_of now) (room_of t) n k all less h.1)

pub tier_faults : (P : Content → Type 0) (column k m : ℕ) (e : ValueFault) → k ≡ m → FaultSays (λ file cell. (x : Content) × P x × BreaksFreeList column k x file cell) (λ u. (x : Content) × P x × (u ≡ k) × IsFullTier x column k) e
    → FaultSays (λ file cell. (x : Content) × P x × BreaksFreeList column m x file cell) (λ u. (x : Content) × P x × (u ≡ m) × IsFullTier x column m) e
tier_faults P column k m e is h = subst (λ k. FaultSays (λ file cell. (x : Content) × P x × BreaksFreeList column k x file cell) (λ u. (x : Content) × P x × (u ≡ k) × IsFullTier x column k) e) is h

pub tier_sound : (room slots more k m : ℕ) (e : ValueFault) → k ≡ m → slots ≡ more → FaultSays NoCell (λ u. (u ≡ k) × (room < slots)) e → FaultSays NoCell (λ u. (u ≡ m) × (room < more)) e
tier_sound room slots more k m e is all h = subst (λ n. FaultSays NoCell (λ u. (u ≡ m) × (room < n)) e) all (subst (λ k. FaultSays NoCell (λ u. (u ≡ k) × (room < slots)) e) is h)
