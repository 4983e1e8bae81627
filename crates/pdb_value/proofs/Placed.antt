-- A value in parts is placed in slots that were taken for it.
use Rattle.std.proofs.Common.{◌≡◌, ◌+◌, ◌-◌, ◌*◌, ◌/◌, ◌^◌, ◌<◌, ◌≤◌, ◌==◌, if◌then◌else◌, ℕ, zero, suc, List, [], ◌∷◌, Some, length, take, drop, get_or, refl, sym, ap, subst, ◌∙◌, arith, inl, inr, length-drop}
use Rattle.std.proofs.lemmas.Bool.Decides.{eqb_tells}
use Rattle.std.specs.List.{position}
use Rattle.std.specs.Prelude.{slice_get, slice_index}
use Rattle.pdb_cells.specs.Content.{Content, put_cell}
use Rattle.std.proofs.lemmas.Option.{slice_get-get_or, slice_get_within}
use Rattle.pdb_value.specs.inner.Many.{SlotsDiffer, AreWritten}
use Rattle.pdb_value.specs.Faults.{HasTable}
use Rattle.pdb_value.proofs.FirstSlots.{slots_long}
use Rattle.pdb_value.proofs.Sizes.{parts_long}
use Rattle.pdb_value.proofs.Taken.{room_less}
use Rattle.std.proofs.lemmas.List.{drop-drop, length-take}
use Rattle.pdb_value.proofs.Spelled.{only_on, only_slot, put_elsewhere, put_there, same_head}
use Rattle.pdb_model.specs.Files.{head_cell, table_cells, table_file}
use Rattle.pdb_model.specs.Heads.{ends_at}
use Rattle.pdb_model.specs.Slots.{IsHeadOfParts, IsPart, head_bytes, padded, part_bytes}
use Rattle.pdb_model.specs.Tables.{Slot, Parted, Part, Loose, Outside, Table, IsTable, IsSlot, Lists, SpellsTable, after, bytes_of_part, first, holding, holding_parts, next_slot, part_at, part_count, placed, placed_in, room_of, slots_of, slots_taken, taken, taken_many, times, times_free, with_slot}
use Rattle.pdb_model.specs.Tiers.{in_head, in_part, parts_tier, slot_size, tier_of}
use Rattle.pdb_value.specs.inner.Loose.{AreLoose}
use Rattle.pdb_value.proofs.Loosened.{differs}
use Rattle.pdb_value.proofs.Places.{At, Nowhere, stands}
use Rattle.pdb_value.proofs.Sound.{here, same_or, table, take_sound, there}

-- a slot on a list of loose ones is loose, and another than one that isn't there
loose_got : (t : Table) (list : List ℕ) (j s : ℕ) → AreLoose t list → slice_get list j ≡ Some s → t.slot s ≡ Loose
loose_got t [] j s loose e = absurd (cc)
loose_got t (r ∷ rest) zero s loose e = let q : r ≡ s = cc in ap t.slot (sym q) ∙ loose.0
loose_got t (r ∷ rest) (suc j) s loose e = loose_got t rest j s loose.2 e

other_got : (list : List ℕ) (h j s : ℕ) → times h list ≡ 0 → slice_get list j ≡ Some s → s ≡ h → ⊥
other_got [] h j s none e = λ _. cc
other_got (r ∷ rest) h zero s none e = λ q. let w : r ≡ s = cc in (differs h r rest none).0 (w ∙ q)
other_got (r ∷ rest) h (suc j) s none e = other_got rest h j s (differs h r rest none).1 e

-- a slot has one place among loose ones
one_place : (t : Table) (list : List ℕ) (j k s : ℕ) → AreLoose t list → slice_get list j ≡ Some s → slice_get list k ≡ Some s → j ≡ k
one_place t [] j k s loose a b = absurd (cc)
one_place t (r ∷ rest) zero zero s loose a b = refl
one_place t (r ∷ rest) zero (suc k) s loose a b = let w : r ≡ s = cc in absurd (other_got rest r k s loose.1 b (sym w))
one_place t (r ∷ rest) (suc j) zero s loose a b = let w : r ≡ s = cc in absurd (other_got rest r j s loose.1 a (sym w))
one_place t (r ∷ rest) (suc j) (suc k) s loose a b = ap suc (one_place t rest j k s loose.2 a b)

-- what a slot is after that
pub data Becomes (t : Table) (h : ℕ) (key : List ℕ) (count : ℕ) (value parts : List ℕ) (i : ℕ) (x : Slot) : Type 0 where
  IsTop : i ≡ h → x ≡ Parted key count value parts → Becomes t h key count value parts i x
  IsOne : (j : ℕ) → (i ≡ h → ⊥) → slice_get parts j ≡ Some i → x ≡ Part h j (bytes_of_part value j) (slice_index parts (j + 1)) → Becomes t h key count value parts i x
  IsOld : (i ≡ h → ⊥) → ((j : ℕ) → slice_get parts j ≡ Some i → ⊥) → x ≡ t.slot i → Becomes t h key count value parts i x

abbrev slot_then : Table → ℕ → List ℕ → ℕ → List ℕ → List ℕ → ℕ → Slot
slot_then t h key count value parts i = if i == h then Parted key count value parts else part_at h value parts (t.slot i) (position (λ s. s == i) parts)

pub becomes : (t : Table) (h : ℕ) (key : List ℕ) (count : ℕ) (value parts : List ℕ) (i : ℕ) → Becomes t h key count value parts i (slot_then t h key count value parts i)
becomes t h key count value parts i =
    same_or i h (λ b. Becomes t h key count value parts i (if b then Parted key count value parts else part_at h value parts (t.slot i) (position (λ s. s == i) parts)))
    (λ e. IsTop e refl)
    (λ ne. elim (stands parts i) [
      | At j p got ↦ IsOne j ne got (ap (part_at h value parts (t.slot i)) p)
      | Nowhere p none ↦ IsOld ne none (ap (part_at h value parts (t.slot i)) p)
    ])

loose_no_part : (g j : ℕ) (bytes : List ℕ) (next : ℕ) → Loose ≡ Part g j bytes next → ⊥
loose_no_part g j bytes next e = cc

loose_no_head : (key : List ℕ) (count : ℕ) (value parts : List ℕ) → Loose ≡ Parted key count value parts → ⊥
loose_no_head key count value parts e = cc

loose_no_outside : Loose ≡ Outside → ⊥
loose_no_outside e = cc

record Same (key key' : List ℕ) (value value' parts parts' : List ℕ) : Type 0 where
  value_is : value' ≡ value
  parts_are : parts' ≡ parts

same_parted : (key key' : List ℕ) (count count' : ℕ) (value value' parts parts' : List ℕ) → Parted key count value parts ≡ Parted key' count' value' parts' → Same key key' value value' parts parts'
same_parted key key' count count' value value' parts parts' e = record { value_is = cc; parts_are = cc }

record SamePart (h g j k : ℕ) : Type 0 where
  head_is : h ≡ g
  place_is : j ≡ k

same_part : (h g j k : ℕ) (b c : List ℕ) (n m : ℕ) → Part h j b n ≡ Part g k c m → SamePart h g j k
same_part h g j k b c n m e = record { head_is = cc; place_is = cc }

-- what is needed of the slots
pub record AreReady (t : Table) (h : ℕ) (value parts : List ℕ) : Type 0 where
  pub is : IsTable t
  pub loose : AreLoose t (h ∷ parts)
  pub count_is : length parts ≡ part_count (length value)

parted_inside : (key : List ℕ) (count : ℕ) (value parts : List ℕ) → Parted key count value parts ≡ Outside → ⊥
parted_inside key count value parts e = cc

part_inside : (h j : ℕ) (bytes : List ℕ) (next : ℕ) → Part h j bytes next ≡ Outside → ⊥
part_inside h j bytes next e = cc

part_no_head : (h j : ℕ) (bytes : List ℕ) (next : ℕ) (key : List ℕ) (count : ℕ) (value parts : List ℕ) → Part h j bytes next ≡ Parted key count value parts → ⊥
part_no_head h j bytes next key count value parts e = cc

head_no_part : (key : List ℕ) (count : ℕ) (value parts : List ℕ) (h j : ℕ) (bytes : List ℕ) (next : ℕ) → Parted key count value parts ≡ Part h j bytes next → ⊥
head_no_part key count value parts h j bytes next e = cc

placed_part : (t : Table) (h : ℕ) (key : List ℕ) (count : ℕ) (value parts : List ℕ) → AreReady t h value parts → (g : ℕ) (k : List ℕ) (c : ℕ) (v ps : List ℕ) (j s : ℕ) → g ≡ h
    → Same key k value v parts ps → slice_get ps j ≡ Some s → slot_then t h key count value parts s ≡ Part g j (bytes_of_part v j) (slice_index ps (j + 1))
placed_part t h key count value parts r g k c v ps j s q same at =
    let got : slice_get parts j ≡ Some s = ap (λ p. slice_get p j) (sym same.parts_are) ∙ at in
    let named : Part h j (bytes_of_part value j) (slice_index parts (j + 1)) ≡ Part g j (bytes_of_part v j) (slice_index ps (j + 1)) =
    ap (λ h. Part h j (bytes_of_part value j) (slice_index parts (j + 1))) (sym q)
    ∙ (ap (λ v. Part g j (bytes_of_part v j) (slice_index parts (j + 1))) (sym same.value_is) ∙ ap (λ p. Part g j (bytes_of_part v j) (slice_index p (j + 1))) (sym same.parts_are)) in
    elim (becomes t h key count value parts s) [
      | IsTop e x ↦ absurd (other_got parts h j s r.loose.1 got e)
      | IsOne i ne there x ↦ x ∙ (ap (λ i. Part h i (bytes_of_part value i) (slice_index parts (i + 1))) (one_place t parts i j s r.loose.2 there got) ∙ named)
      | IsOld ne none x ↦ absurd (none j got)
    ]

listed_there : (t : Table) (h : ℕ) (key : List ℕ) (count : ℕ) (value parts : List ℕ) (g k j i : ℕ) → SamePart h g k j → slice_get parts k ≡ Some i → Lists (slot_then t h key count value parts g) j i
listed_there t h key count value parts g k j i same got =
    subst (λ g. Lists (slot_then t h key count value parts g) j i) same.head_is
    (same_or h h (λ b. Lists (if b then Parted key count value parts else part_at h value parts (t.slot h) (position (λ s. s == h) parts)) j i)
    (λ _. ap (slice_get parts) (sym same.place_is) ∙ got) (λ ne. absurd (ne refl)))

pub holding_sound : (t : Table) (h : ℕ) (key : List ℕ) (count : ℕ) (value parts : List ℕ) → AreReady t h value parts → IsTable (holding_parts t h key count value parts)
holding_sound t h key count value parts r = record {
  once = λ i. elim (becomes t h key count value parts i) [
    | IsTop e x ↦ r.is.once i ∙ (ap (λ k. times_free (t.slot k)) e ∙ (ap times_free r.loose.0 ∙ sym (ap times_free x)))
    | IsOne j ne got x ↦ r.is.once i ∙ (ap times_free (loose_got t parts j i r.loose.2 got) ∙ sym (ap times_free x))
    | IsOld ne none x ↦ r.is.once i ∙ sym (ap times_free x)
  ];
  above = λ i far. elim (becomes t h key count value parts i) [
    | IsTop e x ↦ absurd (loose_no_outside (sym r.loose.0 ∙ (ap t.slot (sym e) ∙ r.is.above i far)))
    | IsOne j ne got x ↦ absurd (loose_no_outside (sym (loose_got t parts j i r.loose.2 got) ∙ r.is.above i far))
    | IsOld ne none x ↦ x ∙ r.is.above i far
  ];
  from_one = elim (becomes t h key count value parts 0) [
    | IsTop e x ↦ absurd (loose_no_outside (sym r.loose.0 ∙ (ap t.slot (sym e) ∙ r.is.from_one)))
    | IsOne j ne got x ↦ absurd (loose_no_outside (sym (loose_got t parts j 0 r.loose.2 got) ∙ r.is.from_one))
    | IsOld ne none x ↦ x ∙ r.is.from_one
  ];
  narrow = r.is.narrow;
  within = λ i e some. elim (becomes t h key count value parts i) [
    | IsTop q x ↦ absurd (parted_inside key count value parts (sym x ∙ e))
    | IsOne j ne got x ↦ absurd (part_inside h j (bytes_of_part value j) (slice_index parts (j + 1)) (sym x ∙ e))
    | IsOld ne none x ↦ r.is.within i (sym x ∙ e) some
  ];
  parts = λ g k c v ps e j s at. elim (becomes t h key count value parts g) [
    | IsTop q x ↦ placed_part t h key count value parts r g k c v ps j s q (same_parted key k count c value v parts ps (sym x ∙ e)) at
    | IsOne i ne got x ↦ absurd (part_no_head h i (bytes_of_part value i) (slice_index parts (i + 1)) k c v ps (sym x ∙ e))
    | IsOld ne none x ↦
        let old = r.is.parts g k c v ps (sym x ∙ e) j s at in
        elim (becomes t h key count value parts s) [
          | IsTop q y ↦ absurd (loose_no_part g j (bytes_of_part v j) (slice_index ps (j + 1)) (sym r.loose.0 ∙ (ap t.slot (sym q) ∙ old)))
          | IsOne i ne2 got y ↦ absurd (loose_no_part g j (bytes_of_part v j) (slice_index ps (j + 1)) (sym (loose_got t parts i s r.loose.2 got) ∙ old))
          | IsOld ne2 none2 y ↦ y ∙ old
        ]
  ];
  all_parts = λ g k c v ps e. elim (becomes t h key count value parts g) [
    | IsTop q x ↦ let same = same_parted key k count c value v parts ps (sym x ∙ e) in ap length same.parts_are ∙ (r.count_is ∙ ap (λ v. part_count (length v)) (sym same.value_is))
    | IsOne i ne got x ↦ absurd (part_no_head h i (bytes_of_part value i) (slice_index parts (i + 1)) k c v ps (sym x ∙ e))
    | IsOld ne none x ↦ r.is.all_parts g k c v ps (sym x ∙ e)
  ];
  owned = λ i g j b n e. elim (becomes t h key count value parts i) [
    | IsTop q x ↦ absurd (head_no_part key count value parts g j b n (sym x ∙ e))
    | IsOne k ne got x ↦
        let same = same_part h g k j (bytes_of_part value k) b (slice_index parts (k + 1)) n (sym x ∙ e) in
        listed_there t h key count value parts g k j i same got
    | IsOld ne none x ↦
        let old = r.is.owned i g j b n (sym x ∙ e) in
        elim (becomes t h key count value parts g) [
          | IsTop q y ↦ absurd (subst (λ x. Lists x j i) (ap t.slot q ∙ r.loose.0) old)
          | IsOne k ne2 got y ↦ absurd (subst (λ x. Lists x j i) (loose_got t parts k g r.loose.2 got) old)
          | IsOld ne2 none2 y ↦ subst (λ x. Lists x j i) (sym y) old
        ]
  ];
}

pub holding_spelled : (head head' : List ℕ) (cells cells' : ℕ → List ℕ) (t : Table) (h : ℕ) (key : List ℕ) (count : ℕ) (value parts : List ℕ) → SpellsTable parts_tier head cells t → AreReady t h value parts
    → ends_at parts_tier head' ≡ ends_at parts_tier head
    → IsHeadOfParts (cells' h) key count (length value) (first parts) (take in_head value)
    → ((j s : ℕ) → slice_get parts j ≡ Some s → IsPart (cells' s) (slice_index parts (j + 1)) (bytes_of_part value j))
    → ((i : ℕ) → (i ≡ h → ⊥) → ((j : ℕ) → slice_get parts j ≡ Some i → ⊥) → cells' i ≡ cells i)
    → SpellsTable parts_tier head' cells' (holding_parts t h key count value parts)
holding_spelled head head' cells cells' t h key count value parts spells r ends top others old = record {
  is = holding_sound t h key count value parts r;
  ends = ends ∙ spells.ends;
  slots = λ i. elim (becomes t h key count value parts i) [
    | IsTop e x ↦ subst (λ x. IsSlot parts_tier x (after i t.free) (cells' i)) (sym x) (refl, subst (λ k. IsHeadOfParts (cells' k) key count (length value) (first parts) (take in_head value)) (sym e) top)
    | IsOne j ne got x ↦ subst (λ x. IsSlot parts_tier x (after i t.free) (cells' i)) (sym x) (refl, others j i got)
    | IsOld ne none x ↦ subst (λ x. IsSlot parts_tier x (after i t.free) (cells' i)) (sym x) (subst (IsSlot parts_tier (t.slot i) (after i t.free)) (sym (old i ne none)) (spells.slots i))
  ];
}

some_is : (a b : ℕ) → Some a ≡ Some b → a ≡ b
some_is a b e = cc

-- one part more is written
pub written_step : (column i n : ℕ) (slots bytes : List ℕ) (before now : Content) (next : ℕ) (value cell : List ℕ) → i < length slots → AreWritten column slots bytes i before now
    → cell ≡ padded (slot_size parts_tier) (part_bytes next value) → next ≡ slice_index slots (i + 1) → next < 2 ^ 32 → value ≡ take in_part (drop (in_part * i) bytes) → length value ≤ in_part → n ≡ i + 1
    → AreWritten column slots bytes n before (put_cell (table_file column parts_tier) (slice_index slots i) cell now)
written_step column i n slots bytes before now next value cell less all wrote follows small is fits more =
    let got : slice_get slots i ≡ Some (slice_index slots i) = slice_get-get_or slots i 0 less in
    let part : IsPart cell next value = record { spelled = wrote; fits = fits; narrow = small } in
    record {
      only = only_on column parts_tier before now _ all.only (only_slot column parts_tier (slice_index slots i) cell now);
      head = same_head column parts_tier (slice_index slots i) cell now ∙ all.head;
      others = λ x none. put_elsewhere column parts_tier (slice_index slots i) x cell now (λ e. none i (got ∙ ap Some (sym e))) ∙ all.others x none;
      parts = λ apart j s low get. elim (eqb_tells j i) [
        | inl h ↦
            let same : s ≡ slice_index slots i = some_is s (slice_index slots i) (sym get ∙ (ap (slice_get slots) h.1 ∙ got)) in
            subst (λ (c : List ℕ). IsPart c (slice_index slots (j + 1)) (take in_part (drop (in_part * j) bytes))) (sym (put_there column parts_tier (slice_index slots i) s cell now same))
            (subst (λ k. IsPart cell (slice_index slots (k + 1)) (take in_part (drop (in_part * k) bytes))) (sym h.1)
            (subst (λ k. IsPart cell k (take in_part (drop (in_part * i) bytes))) follows (subst (IsPart cell next) is part)))
        | inr h ↦
            subst (λ (c : List ℕ). IsPart c (slice_index slots (j + 1)) (take in_part (drop (in_part * j) bytes)))
            (sym (put_elsewhere column parts_tier (slice_index slots i) s cell now (λ e. h.1 (apart j i s get (got ∙ ap Some (sym e))))))
            (all.parts apart j s (omega (arith, h.1)) get)
      ];
    }

-- ---- the slots that are taken

loose_then : (slot : ℕ → Slot) (n s : ℕ) → slot s ≡ Loose → with_slot slot n Loose s ≡ Loose
loose_then slot n s e = same_or s n (λ b. (if b then Loose else slot s) ≡ Loose) (λ _. refl) (λ _. e)

loose_many : (n : ℕ) (t : Table) (s : ℕ) → t.slot s ≡ Loose → (taken_many n t).slot s ≡ Loose
loose_many zero t s e = e
loose_many (suc n) t s e = loose_many n (taken t) s (loose_then t.slot (next_slot t.free t.end) s e)

not_next : (slot : ℕ → Slot) (free : List ℕ) (end s : ℕ) → IsTable (table slot free end) → slot s ≡ Loose → next_slot free end ≡ s → ⊥
not_next slot [] end s is e q = loose_no_outside (sym e ∙ (ap slot (sym q) ∙ is.above (end + 1) (omega arith)))
not_next slot (r ∷ rest) end s is e q =
    let on = here r rest in
    let once = is.once r in
    let none : times_free (slot r) ≡ 0 = ap (λ k. times_free (slot k)) q ∙ ap times_free e in omega arith

still_table : (slot : ℕ → Slot) (free : List ℕ) (end : ℕ) → IsTable (table slot free end) → 1 ≤ room_of (table slot free end) → IsTable (taken (table slot free end))
still_table slot [] end is room = take_sound slot [] end is (λ _. omega arith)
still_table slot (s ∷ rest) end is room = take_sound slot (s ∷ rest) end is (λ e. cc)

apart_many : (n : ℕ) (t : Table) (s : ℕ) → IsTable t → n ≤ room_of t → t.slot s ≡ Loose → times s (slots_taken n t) ≡ 0
apart_many zero t s is room e = refl
apart_many (suc n) t s is room e =
    let more = still_table t.slot t.free t.end is (omega arith) in
    let less = room_less t more in
    let tail = apart_many n (taken t) s more (omega arith) (loose_then t.slot (next_slot t.free t.end) s e) in
    same_or s (next_slot t.free t.end) (λ b. (if b then 1 else 0) + times s (slots_taken n (taken t)) ≡ 0) (λ q. absurd (not_next t.slot t.free t.end s is e (sym q))) (λ _. omega arith)

pub many_loose : (n : ℕ) (t : Table) → IsTable t → n ≤ room_of t → AreLoose (taken_many n t) (slots_taken n t)
many_loose zero t is room = tt
many_loose (suc n) t is room =
    let more = still_table t.slot t.free t.end is (omega arith) in
    let less = room_less t more in
    let here_is = there t.slot (next_slot t.free t.end) Loose in
    (loose_many n (taken t) (next_slot t.free t.end) here_is, apart_many n (taken t) (next_slot t.free t.end) more (omega arith) here_is, many_loose n (taken t) more (omega arith))

pub many_len : (n : ℕ) (t : Table) → length (slots_taken n t) ≡ n
many_len zero t = refl
many_len (suc n) t = ap suc (many_len n (taken t))

pub first_taken : (n : ℕ) (t : Table) (slots : List ℕ) → 1 ≤ n → slots ≡ slots_taken n t → slice_index slots 0 ≡ next_slot t.free t.end
first_taken zero t slots some e = absurd (omega arith)
first_taken (suc n) t slots some e = ap (λ l. slice_index l 0) e

cons_form : (xs : List ℕ) → 1 ≤ length xs → xs ≡ slice_index xs 0 ∷ drop 1 xs
cons_form [] some = absurd (omega arith)
cons_form (x ∷ xs) some = refl

second : (xs : List ℕ) → slice_index xs 1 ≡ first (drop 1 xs)
second [] = refl
second (x ∷ []) = refl
second (x ∷ (y ∷ ys)) = refl

-- ---- the table after a value is placed

pub one_slot : (len : ℕ) → (tier_of len ≡ parts_tier → ⊥) → slots_of len ≡ 1
one_slot len ne = same_or (tier_of len) parts_tier (λ b. (if b then 1 + part_count len else 1) ≡ 1) (λ e. absurd (ne e)) (λ _. refl)

pub placed_whole : (t : Table) (key : List ℕ) (count : ℕ) (value : List ℕ) → (tier_of (length value) ≡ parts_tier → ⊥) → placed t key count value ≡ holding (taken t) (next_slot t.free t.end) key count value
placed_whole t key count value ne =
    ap (λ n. placed_in (taken_many n t) key count value (slots_taken n t)) (one_slot (length value) ne)
    ∙ same_or (tier_of (length value)) parts_tier
    (λ b. (if b then holding_parts (taken t) (next_slot t.free t.end) key count value [] else holding (taken t) (next_slot t.free t.end) key count value) ≡ holding (taken t) (next_slot t.free t.end) key count value)
    (λ e. absurd (ne e)) (λ _. refl)

placed_list : (t : Table) (key : List ℕ) (count : ℕ) (value : List ℕ) (h : ℕ) (parts : List ℕ) → tier_of (length value) ≡ parts_tier → placed_in t key count value (h ∷ parts) ≡ holding_parts t h key count value parts
placed_list t key count value h parts e =
    same_or (tier_of (length value)) parts_tier (λ b. (if b then holding_parts t h key count value parts else holding t h key count value) ≡ holding_parts t h key count value parts) (λ _. refl) (λ ne. absurd (ne e))

pub placed_parts : (t : Table) (key : List ℕ) (count : ℕ) (value : List ℕ) (n : ℕ) (slots : List ℕ) → tier_of (length value) ≡ parts_tier → n ≡ slots_of (length value) → slots ≡ slots_taken n t → 1 ≤ length slots
    → placed t key count value ≡ holding_parts (taken_many n t) (slice_index slots 0) key count value (drop 1 slots)
placed_parts t key count value n slots e is all some =
    ap (λ n. placed_in (taken_many n t) key count value (slots_taken n t)) (sym is) ∙ (ap (placed_in (taken_many n t) key count value) (sym all ∙ cons_form slots some)
    ∙ placed_list (taken_many n t) key count value (slice_index slots 0) (drop 1 slots) e)

pub parts_placed : (column n : ℕ) (t : Table) (mid last : Content) (slots further others value key cell : List ℕ) (count next : ℕ) → tier_of (length value) ≡ parts_tier → length value ≤ 8388608 → n ≡ slots_of (length value)
    → IsTable t → n ≤ room_of t → HasTable mid column parts_tier (taken_many n t) → slots ≡ slots_taken n t → further ≡ drop 1 slots → others ≡ drop in_head value → next ≡ slice_index slots 1 → next < 2 ^ 32
    → AreWritten column further others (length further) mid last → cell ≡ head_bytes key count (length value) next (take in_head value) → length key ≡ 32 → 1 ≤ count → count < 2 ^ 64
    → HasTable (put_cell (table_file column parts_tier) (slice_index slots 0) cell last) column parts_tier (placed t key count value)
parts_placed column n t mid last slots further others value key cell count next e most is tab room spells all rest behind follows small wrote spelled k some narrow =
    let long = parts_long (length value) e in
    let many : length slots ≡ n = ap length all ∙ many_len n t in
    let counted : n ≡ 1 + (length value - 4044 + 4087) / 4088 = is ∙ slots_long parts_tier (length value) refl (sym e) in
    let cons = cons_form slots (omega arith) in
    let loose : AreLoose (taken_many n t) (slice_index slots 0 ∷ drop 1 slots) = subst (AreLoose (taken_many n t)) (sym all ∙ cons) (many_loose n t tab room) in
    let h : ℕ = slice_index slots 0 in
    let apart : SlotsDiffer further = λ i j s a b. one_place (taken_many n t) (drop 1 slots) i j s loose.2 (ap (λ l. slice_get l i) (sym rest) ∙ a) (ap (λ l. slice_get l j) (sym rest) ∙ b) in
    let ready : AreReady (taken_many n t) h value (drop 1 slots) = record { is = spells.is; loose = loose; count_is = length-drop 1 slots ∙ omega arith } in
    subst (HasTable (put_cell (table_file column parts_tier) h cell last) column parts_tier) (sym (placed_parts t key count value n slots e is all (omega arith)))
    (holding_spelled (head_cell mid column) (head_cell (put_cell (table_file column parts_tier) h cell last) column) (table_cells mid column parts_tier)
    (table_cells (put_cell (table_file column parts_tier) h cell last) column parts_tier) (taken_many n t) h key count value (drop 1 slots) spells ready
    (ap (ends_at parts_tier) (same_head column parts_tier h cell last ∙ wrote.head))
    (subst (λ (c : List ℕ). IsHeadOfParts c key count (length value) (first (drop 1 slots)) (take in_head value)) (sym (put_there column parts_tier h h cell last refl)) (record {
      spelled = spelled ∙ ap (λ m. head_bytes key count (length value) m (take in_head value)) (follows ∙ second slots);
      counted = record { key_len = k; some = some; narrow = narrow };
      full = let m = length-take in_head value in omega arith;
      long = e;
      not_too_long = most;
      narrow = subst (λ m. m < 2 ^ 32) (follows ∙ second slots) small;
    }))
    (λ j s got.
    let at : slice_get further j ≡ Some s = ap (λ l. slice_get l j) rest ∙ got in
    let ne : s ≡ h → ⊥ = other_got (drop 1 slots) h j s loose.1 got in
    let part = wrote.parts apart j s (slice_get_within further j s at) at in
    subst (λ (c : List ℕ). IsPart c (slice_index (drop 1 slots) (j + 1)) (bytes_of_part value j)) (sym (put_elsewhere column parts_tier h s cell last ne))
    (subst (λ (b : List ℕ). IsPart (table_cells last column parts_tier s) (slice_index (drop 1 slots) (j + 1)) b)
    (ap (λ o. take in_part (drop (in_part * j) o)) behind ∙ ap (take in_part) (drop-drop (in_part * j) in_head value))
    (subst (λ l. IsPart (table_cells last column parts_tier s) (slice_index l (j + 1)) (take in_part (drop (in_part * j) others))) rest part)))
    (λ i ne none. put_elsewhere column parts_tier h i cell last ne ∙ wrote.others i (λ j at. none j (ap (λ l. slice_get l j) (sym rest) ∙ at))))

pub head_of : (xs : List ℕ) (x : ℕ) → 1 ≤ length xs → x ≡ get_or xs 0 x → x ≡ slice_index xs 0
head_of [] x some e = absurd (omega arith)
head_of (y ∷ ys) x some e = e
