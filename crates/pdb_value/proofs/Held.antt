-- What a table's slot that holds a value says of the cells.
use Rattle.std.proofs.Common.{◌≡◌, ◌⊎◌, ◌+◌, ◌-◌, ◌*◌, ◌/◌, ◌<◌, ◌≤◌, ℕ, List, [], ◌∷◌, ◌++◌, Some, length, take, drop, refl, sym, ap, subst, ◌∙◌, arith, inl, inr, length-drop}
use Rattle.std.proofs.lemmas.List.{drop-drop, nil_from_length, take-append-drop}
use Rattle.std.specs.Prelude.{slice_index}
use Rattle.pdb_cells.specs.Content.{Content}
use Rattle.pdb_model.specs.Breaks.{HasEnd}
use Rattle.pdb_model.specs.Files.{head_cell, table_cells}
use Rattle.pdb_model.specs.Heads.{IsHeadCell}
use Rattle.pdb_model.specs.Slots.{IsHeadOfParts, IsPart, IsWhole}
use Rattle.pdb_model.specs.Tables.{Slot, Whole, Parted, Part, Free, Loose, Outside, Table, Held, IsSlot, SpellsTable, after, bytes_of_part, first, held, parts_of}
use Rattle.pdb_model.specs.Tiers.{in_head, in_part, parts_tier}
use Rattle.pdb_value.specs.Faults.{FaultSays, HasTable, NoCell, NoTier}
use Rattle.pdb_value.specs.Values.{AreFurtherParts, IsValueAt}
use Rattle.pdb_value.proofs.Chains.{same_parts}
use Rattle.pdb_value.specs.declared.fault.ValueFault.{ValueFault}
use Rattle.pdb_value.specs.declared.fault.ValueFault.TheVariants.{Damaged, Disk, OutOfMemory, TierFull}
use Rattle.pdb_value.specs.inner.Firsts.{BreaksFirst, IsFirst}
use Rattle.pdb_value.proofs.Layouts.{one_head, one_whole}
use Rattle.pdb_value.proofs.Lists.{drop_got, first_index}
use Rattle.pdb_value.proofs.Sizes.{parts_long, whole_short}
use Rattle.pdb_value.proofs.Sound.{used_by}
use Rattle.pdb_value.proofs.Spelled.{ends_are_read}

pub held_is : (x : Slot) (h : Held) → held x ≡ Some h → (x ≡ Whole h.key h.count h.value) ⊎ ((parts : List ℕ) × (x ≡ Parted h.key h.count h.value parts))
held_is (Whole key count value) h e =
    let r : Held = record { key = key; count = count; value = value } in
    let same : r ≡ h = cc in inl (ap (λ (h : Held). Whole h.key h.count h.value) same)
held_is (Parted key count value parts) h e =
    let r : Held = record { key = key; count = count; value = value } in
    let same : r ≡ h = cc in inr (parts, ap (λ (h : Held). Parted h.key h.count h.value parts) same)
held_is (Part head place bytes next) h e = absurd (cc)
held_is Free h e = absurd (cc)
held_is Loose h e = absurd (cc)
held_is Outside h e = absurd (cc)

pub held_whole : (tier s n : ℕ) (x : Slot) (cell key : List ℕ) (count : ℕ) (value : List ℕ) → x ≡ Whole key count value → IsSlot tier x n cell → IsWhole tier cell key count value
held_whole tier s n x cell key count value e is = subst (λ x. IsSlot tier x n cell) e is

pub held_head : (tier s n : ℕ) (x : Slot) (cell key : List ℕ) (count : ℕ) (value parts : List ℕ) → x ≡ Parted key count value parts → IsSlot tier x n cell
    → (tier ≡ parts_tier) × IsHeadOfParts cell key count (length value) (first parts) (take in_head value)
held_head tier s n x cell key count value parts e is = subst (λ x. IsSlot tier x n cell) e is

held_part : (tier n : ℕ) (x : Slot) (cell : List ℕ) (head place : ℕ) (bytes : List ℕ) (next : ℕ) → x ≡ Part head place bytes next → IsSlot tier x n cell → IsPart cell next bytes
held_part tier n x cell head place bytes next e is = (let both : (tier ≡ parts_tier) × IsPart cell next bytes = subst (λ x. IsSlot tier x n cell) e is in both).1

not_outside : (x : Slot) (head place : ℕ) (bytes : List ℕ) (next : ℕ) → x ≡ Part head place bytes next → x ≡ Outside → ⊥
not_outside x head place bytes next e o = cc

-- the parts of a value from one of them on
chain : (tier : ℕ) (head : List ℕ) (cells : ℕ → List ℕ) (t : Table) (h : ℕ) (key : List ℕ) (count : ℕ) (value parts : List ℕ) → SpellsTable tier head cells t
    → t.slot h ≡ Parted key count value parts → (rest : List ℕ) (j : ℕ) → drop j parts ≡ rest → length rest ≡ (length (drop (in_head + in_part * j) value) + 4087) / 4088
    → AreFurtherParts t.end cells rest (drop (in_head + in_part * j) value)
chain tier head cells t h key count value parts spells is [] j from n = nil_from_length (drop (in_head + in_part * j) value) (omega arith)
chain tier head cells t h key count value parts spells is (s ∷ rest) j from n =
    let at = drop_got parts j s rest from in
    let part : t.slot s ≡ Part h j (bytes_of_part value j) (slice_index parts (j + 1)) = spells.is.parts h key count value parts is j s at.0 in
    let used = used_by t s spells.is (not_outside (t.slot s) h j (bytes_of_part value j) (slice_index parts (j + 1)) part) in
    let next : slice_index parts (j + 1) ≡ first rest = sym (first_index parts (j + 1)) ∙ ap first at.1 in
    let cut : drop in_part (drop (in_head + in_part * j) value) ≡ drop (in_head + in_part * (j + 1)) value = drop-drop in_part (in_head + in_part * j) value ∙ ap (λ n. drop n value) (let q : in_head + in_part * j + in_part ≡ in_head + in_part * (j + 1) = omega arith in q) in (
      omega arith,
      used.0,
      used.1,
      subst (λ k. IsPart (cells s) k (take in_part (drop (in_head + in_part * j) value))) next (held_part tier (after s t.free) (t.slot s) (cells s) h j (bytes_of_part value j) (slice_index parts (j + 1)) part (spells.slots s)),
      subst (AreFurtherParts t.end cells rest) (sym cut) (chain tier head cells t h key count value parts spells is rest (j + 1) at.1
          (let a = length-drop (in_head + in_part * j) value in let b = length-drop (in_head + in_part * (j + 1)) value in omega arith)),
    )

-- the further parts of a value
pub parts_held : (tier : ℕ) (head : List ℕ) (cells : ℕ → List ℕ) (t : Table) (h : ℕ) (key : List ℕ) (count : ℕ) (value parts : List ℕ) → SpellsTable tier head cells t
    → t.slot h ≡ Parted key count value parts → AreFurtherParts t.end cells parts (drop in_head value)
parts_held tier head cells t h key count value parts spells is =
    chain tier head cells t h key count value parts spells is parts 0 refl (spells.is.all_parts h key count value parts is ∙ ap (λ n. (n + 4087) / 4088) (sym (length-drop in_head value)))

first_within : (end : ℕ) (cells : ℕ → List ℕ) (parts bytes : List ℕ) → AreFurtherParts end cells parts bytes → 1 ≤ length bytes → (1 ≤ first parts) × (first parts ≤ end)
first_within end cells [] bytes are some = let n = ap length are in absurd (omega arith)
first_within end cells (s ∷ rest) bytes are some = (are.1, are.2)

pub parts_from : (tier : ℕ) (head : List ℕ) (cells : ℕ → List ℕ) (t : Table) (h : ℕ) (key : List ℕ) (count : ℕ) (value parts : List ℕ) → SpellsTable tier head cells t
    → t.slot h ≡ Parted key count value parts → (1 ≤ first parts) × (first parts ≤ t.end)
parts_from tier head cells t h key count value parts spells is =
    let first = held_head tier h (after h t.free) (t.slot h) (cells h) key count value parts is (spells.slots h) in
    let long = parts_long (length value) first.1.long in
    first_within t.end cells parts (drop in_head value) (parts_held tier head cells t h key count value parts spells is) (let n = length-drop in_head value in omega arith)

-- the end that the head cell says is the table's
pub end_is : (cells : Content) (column tier end : ℕ) (t : Table) → tier < 16 → HasEnd cells column tier end → HasTable cells column tier t → end ≡ t.end
end_is cells column tier end t small (h, said, keeps, is) spells =
    let le = keeps.free tier small in
    let narrow = keeps.narrow tier small in
    sym is ∙ (ends_are_read tier (head_cell cells column) (table_cells cells column tier) t (h.ends tier).free (h.ends tier).end spells (omega arith) narrow (said.tiers tier small)).1

-- a slot that holds a value is no broken one
pub first_stands : (cells : Content) (column tier s : ℕ) (t : Table) (h : Held) (file cell : ℕ) → tier < 16 → IsHeadCell (head_cell cells column) → HasTable cells column tier t → held (t.slot s) ≡ Some h
    → BreaksFirst cells column tier s file cell → ⊥
first_stands cells column tier s t h file cell small keeps spells holds broken =
    elim broken [
      | inl a ↦ a.broken keeps
      | inr b ↦
          let end : b.2.0 ≡ t.end = end_is cells column tier b.2.0 t small b.2.1 spells in
          elim (held_is (t.slot s) h holds) [
            | inl w ↦ b.2.2.not_whole h.key h.count h.value (held_whole tier s (after s t.free) (t.slot s) _ h.key h.count h.value w (spells.slots s))
            | inr p ↦
                let head = held_head tier s (after s t.free) (t.slot s) _ h.key h.count h.value p.0 p.1 (spells.slots s) in
                let from = parts_from tier (head_cell cells column) (table_cells cells column tier) t s h.key h.count h.value p.0 spells p.1 in
                elim (b.2.2.not_head h.key h.count (length h.value) (first p.0) (take in_head h.value) head.0 head.1) [ inl z ↦ omega (arith, z) | inr f ↦ omega (arith, f) ]
          ]
    ]

pub first_sound : (cells : Content) (column tier s : ℕ) (t : Table) (h : Held) (e : ValueFault) → tier < 16 → IsHeadCell (head_cell cells column) → HasTable cells column tier t → held (t.slot s) ≡ Some h
    → FaultSays (BreaksFirst cells column tier s) NoTier e → FaultSays NoCell NoTier e
first_sound cells column tier s t h OutOfMemory small keeps spells holds says = tt
first_sound cells column tier s t h Disk small keeps spells holds says = tt
first_sound cells column tier s t h (Damaged file cell) small keeps spells holds says = first_stands cells column tier s t h file cell small keeps spells holds says
first_sound cells column tier s t h (TierFull u) small keeps spells holds says = says

-- what is read of a first slot is what the table says
pub record Agrees (x : Slot) (h : Held) (key : List ℕ) (count len next : ℕ) : Type 0 where
  pub key_is : key ≡ h.key
  pub count_is : count ≡ h.count
  pub len_is : len ≡ length h.value
  pub next_is : next ≡ first (parts_of x)

pub agrees : (cells : Content) (column tier s end : ℕ) (t : Table) (h : Held) (cell key : List ℕ) (count len next : ℕ) → HasTable cells column tier t → held (t.slot s) ≡ Some h
    → cell ≡ table_cells cells column tier s → IsFirst tier end cell key count len next → Agrees (t.slot s) h key count len next
agrees cells column tier s end t h cell key count len next spells holds is read =
    elim (held_is (t.slot s) h holds) [
      | inl w ↦
          let whole = subst (λ (c : List ℕ). IsWhole tier c h.key h.count h.value) (sym is) (held_whole tier s (after s t.free) (t.slot s) _ h.key h.count h.value w (spells.slots s)) in
          elim read [
            | inl a ↦
                let same = one_whole tier cell key h.key a.0 h.value count h.count
                (let q = whole_short (length a.0) tier a.1.not_parts a.1.lowest in omega arith) (let q = whole_short (length h.value) tier whole.not_parts whole.lowest in omega arith) a.1 whole in
                record { key_is = same.key_is; count_is = same.count_is; len_is = a.2 ∙ ap length same.value_is; next_is = a.3 ∙ ap (λ x. first (parts_of x)) (sym w) }
            | inr b ↦ let low = whole.not_parts in absurd (omega (arith, b.0))
          ]
      | inr p ↦
          let head = held_head tier s (after s t.free) (t.slot s) _ h.key h.count h.value p.0 p.1 (spells.slots s) in
          let there = subst (λ (c : List ℕ). IsHeadOfParts c h.key h.count (length h.value) (first p.0) (take in_head h.value)) (sym is) head.1 in
          elim read [
            | inl a ↦ let low = a.1.not_parts in absurd (omega (arith, head.0))
            | inr b ↦
                let same = one_head cell key h.key b.1.0 (take in_head h.value) count h.count len (length h.value) next (first p.0) b.1.1 there in
                record { key_is = same.key_is; count_is = same.count_is; len_is = same.links.whole_is; next_is = same.links.next_is ∙ ap (λ x. first (parts_of x)) (sym p.1) }
          ]
    ]

-- a slot spells one value, the table's
pub value_is : (cells : Content) (column tier s : ℕ) (t : Table) (h : Held) (key : List ℕ) (count : ℕ) (value : List ℕ) → HasTable cells column tier t → held (t.slot s) ≡ Some h
    → IsValueAt cells column tier s key count value → (h.key ≡ key) × (h.value ≡ value)
value_is cells column tier s t h key count value spells holds there =
    elim (held_is (t.slot s) h holds) [
      | inl w ↦
          let whole = held_whole tier s (after s t.free) (t.slot s) (table_cells cells column tier s) h.key h.count h.value w (spells.slots s) in
          elim there [
            | inl a ↦
                let same = one_whole tier (table_cells cells column tier s) h.key key h.value value h.count count
                (let q = whole_short (length h.value) tier whole.not_parts whole.lowest in omega arith) (let q = whole_short (length value) tier a.not_parts a.lowest in omega arith) whole a in
                (same.key_is, same.value_is)
            | inr b ↦ let low = whole.not_parts in absurd (omega (arith, b.0))
          ]
      | inr p ↦
          let head = held_head tier s (after s t.free) (t.slot s) (table_cells cells column tier s) h.key h.count h.value p.0 p.1 (spells.slots s) in
          elim there [
            | inl a ↦ let low = a.not_parts in absurd (omega (arith, head.0))
            | inr b ↦
                let same = one_head (table_cells cells column tier s) h.key key (take in_head h.value) (take in_head value) h.count count (length h.value) (length value) (first p.0) (first b.1.2.0) head.1 b.1.2.1 in
                let end : b.1.0 ≡ t.end = end_is cells column tier b.1.0 t (omega (arith, b.0)) b.1.1 spells in
                let are = parts_held tier (head_cell cells column) (table_cells cells column tier) t s h.key h.count h.value p.0 spells p.1 in
                let tail = same_parts t.end (table_cells cells column tier) p.0 b.1.2.0 (drop in_head h.value) (drop in_head value) are
                (subst (λ n. AreFurtherParts n (table_cells cells column tier) b.1.2.0 (drop in_head value)) end b.1.2.2) same.links.next_is
                (let m = length-drop in_head h.value in let n = length-drop in_head value in let l = same.links.whole_is in omega arith) in
                (same.key_is, sym (take-append-drop in_head h.value) ∙ (ap (λ x. x ++ drop in_head h.value) same.links.value_is ∙ (ap (λ x. take in_head value ++ x) tail ∙ take-append-drop in_head value)))
          ]
    ]

-- the further parts that a table's slot has, as they are read
pub parts_there : (cells : Content) (column tier s end : ℕ) (t : Table) (h : Held) (key : List ℕ) (count len next : ℕ) → tier ≡ 15 → HasEnd cells column tier end → HasTable cells column tier t → held (t.slot s) ≡ Some h
    → Agrees (t.slot s) h key count len next
    → (parts : List ℕ) × (bytes : List ℕ) × AreFurtherParts end (table_cells cells column parts_tier) parts bytes × (first parts ≡ next) × (length bytes ≡ len - 4044) × (t.slot s ≡ Parted h.key h.count h.value parts) × (bytes ≡ drop in_head h.value)
parts_there cells column tier s end t h key count len next low has spells holds agree =
    elim (held_is (t.slot s) h holds) [
      | inl w ↦ let whole = held_whole tier s (after s t.free) (t.slot s) (table_cells cells column tier s) h.key h.count h.value w (spells.slots s) in let q = whole.not_parts in absurd (omega arith)
      | inr p ↦
          let at : end ≡ t.end = end_is cells column tier end t (omega (arith, low)) has spells in
          let are = parts_held tier (head_cell cells column) (table_cells cells column tier) t s h.key h.count h.value p.0 spells p.1 in (
            p.0,
            drop in_head h.value,
            subst (λ u. AreFurtherParts end (table_cells cells column u) p.0 (drop in_head h.value)) low (subst (λ n. AreFurtherParts n (table_cells cells column tier) p.0 (drop in_head h.value)) (sym at) are),
            ap (λ x. first (parts_of x)) (sym p.1) ∙ sym agree.next_is,
            length-drop in_head h.value ∙ ap (λ n. n - 4044) (sym agree.len_is),
            p.1,
            refl,
          )
    ]
