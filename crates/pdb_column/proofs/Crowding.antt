-- A chunk with no empty place is one of 64 keys, and with an empty place it isn't.
use Rattle.std.proofs.Common.{All, ◌≡◌, ◌≢◌, ◌⊎◌, ◌<◌, ℕ, List, [], Option, Some, None, length, take, refl, sym, ap, subst, ◌∙◌, arith, inl, inr}
use Rattle.std.proofs.lemmas.Bool.{cases_lt}
use Rattle.std.proofs.lemmas.List.Elements.{All-get_or}
use Rattle.std.proofs.lemmas.Option.{slice_get-get_or, slice_get_within}
use Rattle.std.specs.Prelude.{slice_get, slice_index}
use Rattle.pdb_cells.specs.Content.{Content}
use Rattle.pdb_model.specs.Chunks.{chunk_number, entry_slot, entry_tier}
use Rattle.pdb_model.specs.Columns.{Column, HasEntry, HoldsContent, IsColumn, Place, SpellsColumn, held_by}
use Rattle.pdb_model.specs.Files.{table_cells}
use Rattle.pdb_model.specs.Slots.{IsHeadOfParts, IsWhole}
use Rattle.pdb_model.specs.Tables.{Held, IsSlot, Slot, after, first, held}
use Rattle.pdb_model.specs.Tiers.{in_head, parts_tier}
use Rattle.pdb_column.specs.Holding.{IsFixed}
use Rattle.pdb_column.specs.Maps.{ColumnMap, IsCrowded}
use Rattle.pdb_column.proofs.Cases.{some_is}
use Rattle.pdb_column.proofs.Finding.{IsFoundAt, IsValueOf, chunk_entry, chunk_within, entry_counted, entry_holds, key_found}
use Rattle.pdb_column.proofs.Held.{held_is, one_held}
use Rattle.pdb_column.proofs.Pigeons.{apart_fit}
use Rattle.pdb_column.proofs.Stepped.{entry_low}

-- each value of the column has a key of 32 bytes
abbrev pub HasFullKeys : Column → Type 0
HasFullKeys c = (tier s : ℕ) (h : Held) → tier < 16 → held ((c.tables tier).slot s) ≡ Some h → length h.key ≡ 32

slot_key : (tier s n : ℕ) (x : Slot) (cell : List ℕ) (h : Held) → held x ≡ Some h → IsSlot tier x n cell → length h.key ≡ 32
slot_key tier s n x cell h e is = elim (held_is x h e) [
  | inl w ↦ let whole : IsWhole tier cell h.key h.count h.value = subst (λ x. IsSlot tier x n cell) w is in whole.counted.key_len
  | inr p ↦
      let head : (tier ≡ parts_tier) × IsHeadOfParts cell h.key h.count (length h.value) (first p.0) (take in_head h.value) = subst (λ x. IsSlot tier x n cell) p.1 is in
      head.1.counted.key_len
]

-- a column that cells spell has keys of 32 bytes
pub spelled_keys : (cells : Content) (column : ℕ) (c : Column) → SpellsColumn cells column c → HasFullKeys c
spelled_keys cells column c spelled tier s h low e =
    slot_key tier s (after s (c.tables tier).free) ((c.tables tier).slot s) (table_cells cells column tier s) h e ((spelled.tables tier low).slots s)

-- ---- no empty place

key_in : Option Held → List ℕ
key_in None = []
key_in (Some h) = h.key

-- the entry at a place of a chunk, its place, and the key that it names
abbrev entry_at : Column → ℕ → ℕ → ℕ
entry_at c n i = slice_index (c.newest n) i

abbrev place_at : Column → ℕ → ℕ → Place
place_at c n i = record { bits = c.bits; chunk = n; place = i }

abbrev key_at : Column → ℕ → ℕ → List ℕ
key_at c n i = key_in (held_by c (entry_at c n i))

key_of_value : (c : Column) (n i : ℕ) (v : IsValueOf c (place_at c n i) (entry_at c n i)) → key_at c n i ≡ v.value.key
unfolding key_in
key_of_value c n i v = ap key_in v.held_is

pub crowded : (c : Column) (content : ColumnMap) (key : List ℕ) → IsColumn c → HoldsContent c content → HasFullKeys c
    → length (c.newest (chunk_number c.bits key)) ≡ 64
    → All (λ e. e ≢ 0) (c.newest (chunk_number c.bits key)) → IsCrowded content c.bits key
crowded c content key is holds keys long full =
    let n : ℕ = chunk_number c.bits key in
    let at : (i : ℕ) → i < 64 → HasEntry c (place_at c n i) (entry_at c n i) = λ i low.
    let within : i < length (c.newest n) = omega arith in
    chunk_entry c n i (entry_at c n i) (chunk_within c.bits key) (slice_get-get_or (c.newest n) i 0 within) (All-get_or (λ e. e ≢ 0) (c.newest n) i 0 within full) in
    let value : (i : ℕ) → i < 64 → IsValueOf c (place_at c n i) (entry_at c n i) = λ i low. entry_holds c (place_at c n i) (entry_at c n i) is (at i low) in record {
      others = key_at c n;
      held = λ i low.
          let v = value i low in
          let same = key_of_value c n i v in (
            record { count = v.value.count; bytes = v.value.value },
            ap content same ∙ entry_counted c content (place_at c n i) (entry_at c n i) v.value is holds (at i low) v.held_is,
            ap length same ∙ keys (entry_tier (entry_at c n i)) (entry_slot (entry_at c n i)) v.value (entry_low c (place_at c n i) (entry_at c n i) is (at i low)) v.held_is,
          );
      chunk = λ i low. let v = value i low in ap (chunk_number c.bits) (key_of_value c n i v) ∙ v.chunk_is;
      differ = λ i j low other same.
          let v = value i low in
          let w = value j other in
          let e : ℕ = entry_at c n i in
          let f : ℕ = entry_at c n j in
          let slots = is.keys (entry_tier e) (entry_slot e) (entry_tier f) (entry_slot f) v.value w.value (entry_low c (place_at c n i) e is (at i low)) (entry_low c (place_at c n j) f is (at j other))
          v.held_is w.held_is (sym (key_of_value c n i v) ∙ (same ∙ key_of_value c n j w)) in
          ap (λ (p : Place). p.place) (is.once (place_at c n i) (place_at c n j) e f (at i low) (at j other) slots.0 slots.1);
    }

-- ---- an empty place

-- where a key stands in the chunk: the first 64 ones where their entries do, one more at the empty place
abbrev Stands : Column → ℕ → (ℕ → List ℕ) → ℕ → ℕ → ℕ → Type 0
Stands c n others place i v =
    ((i < 64) × (e : ℕ) × (slice_get (c.newest n) v ≡ Some e) × (e ≢ 0) × ((h : Held) × (held_by c e ≡ Some h) × (h.key ≡ others i))) ⊎ ((v ≡ place) × (i ≡ 64))

both_at : (c : Column) (content : ColumnMap) (n bits place i j v : ℕ) (key : List ℕ) (w : IsCrowded content bits key)
    → slice_get (c.newest n) place ≡ Some 0 → i < 65 → j < 65
    → Stands c n w.others place i v → Stands c n w.others place j v → i ≡ j
both_at c content n bits place i j v key w empty low other one two =
    elim one [
      | inl x ↦ elim two [
        | inl y ↦
            let entries : x.1 ≡ y.1 = some_is x.1 y.1 (sym x.2 ∙ y.2) in
            let values : x.4.0 ≡ y.4.0 = one_held x.4.0 y.4.0 (sym x.4.1 ∙ (ap (held_by c) entries ∙ y.4.1)) in
            w.differ i j x.0 y.0 (sym x.4.2 ∙ (ap (λ (h : Held). h.key) values ∙ y.4.2))
        | inr y ↦ absurd (x.3 (some_is x.1 0 (sym x.2 ∙ (ap (slice_get (c.newest n)) y.0 ∙ empty))))
      ]
      | inr x ↦ elim two [
        | inl y ↦ absurd (y.3 (some_is y.1 0 (sym y.2 ∙ (ap (slice_get (c.newest n)) x.0 ∙ empty))))
        | inr y ↦ x.1 ∙ sym y.1
      ]
    ]

pub not_crowded : (c : Column) (content : ColumnMap) (key : List ℕ) (place : ℕ) → IsColumn c → IsFixed c
    → HoldsContent c content → length (c.newest (chunk_number c.bits key)) ≡ 64
    → slice_get (c.newest (chunk_number c.bits key)) place ≡ Some 0 → IsCrowded content c.bits key → ⊥
not_crowded c content key place is fixed holds long empty w =
    let n : ℕ = chunk_number c.bits key in
    let found : (i : ℕ) → i < 64 → (v : ℕ) × Stands c n w.others place i v × (v < 64) = λ i low.
    let h = w.held i low in
    let f : IsFoundAt c (w.others i) h.0 = key_found c content (w.others i) h.0 is fixed holds h.2 h.1 in
    let stands : slice_get (c.newest n) f.place.place ≡ Some f.entry = ap (λ m. slice_get (c.newest m) f.place.place) (sym (w.chunk i low)) ∙ f.stands in
    let near = slice_get_within (c.newest n) f.place.place f.entry stands in
    (f.place.place, inl (low, f.entry, stands, f.has.not_empty, (record { key = w.others i; count = h.0.count; value = h.0.bytes }, f.held_is, refl)), omega arith) in
    let most = apart_fit 64 65 (Stands c n w.others place) (record {
      placed = λ i low. elim (cases_lt i 64) [
        | inl less ↦ found i less
        | inr more ↦ let near = slice_get_within (c.newest n) place 0 empty in (place, inr (refl, omega arith), omega arith)
      ];
      apart = λ i j v low other one two. both_at c content n c.bits place i j v key w empty low other one two;
    }) in omega arith
