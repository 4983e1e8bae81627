-- A value is placed under a key that has none.
use Rattle.std.proofs.Common.{◌≡◌, ◌≢◌, ◌+◌, ◌<◌, ◌≤◌, nat_le, true, false, if◌then◌else◌, ℕ, List, [], ◌∷◌, Option, Some, None, length, take, refl, sym, ap, subst, ◌∙◌, arith}
use Rattle.std.specs.Prelude.{slice_get}
use Rattle.pdb_cells.specs.Sizes.{slot_sizes}
use Rattle.sdb_base.specs.Content.{Counted}
use Rattle.pdb_index.proofs.Parts.{entry_is_full, parts_of_entry}
use Rattle.pdb_model.specs.Chunks.{CarriesKey, chunk_number, entry_of, entry_slot, entry_tier}
use Rattle.pdb_model.specs.Columns.{Column, HasEntry, HoldsContent, IsColumn, Place, held_by}
use Rattle.pdb_model.specs.Tables.{Held, IsTable, Table, held, placed}
use Rattle.pdb_model.specs.Tiers.{before_value, tier_from, tier_of}
use Rattle.pdb_column.specs.Holding.{IsFixed}
use Rattle.pdb_column.specs.Maps.{ColumnMap}
use Rattle.pdb_column.specs.inner.Steps.{inserted, slot_for, with_under}
use Rattle.pdb_column.proofs.Cases.{some_is}
use Rattle.pdb_column.proofs.Chunks.{Put, Stays, entry_kept, entry_or, entry_put, put_entry}
use Rattle.pdb_column.proofs.Finding.{chunk_within, entry_holds, entry_stands}
use Rattle.pdb_column.proofs.Held.{Changes, held_within, one_held}
use Rattle.pdb_column.proofs.Placed.{placed_changes}
use Rattle.pdb_column.proofs.Taken.{next_holds_none}
use Rattle.pdb_column.proofs.Stepped.{Keeps, entry_bits_are, stepped_fixed, stepped_keeps}
use Rattle.pdb_column.proofs.Valued.{IsOfKey, stepped}

tier_from_low : (sizes : List ℕ) (tier len : ℕ) → tier_from tier sizes len ≤ tier + length sizes
tier_from_low [] tier len = omega arith
tier_from_low (size ∷ sizes) tier len =
    elim (nat_le (before_value + len) size) as (λ b. (if b then tier else tier_from (tier + 1) sizes len) ≤ tier + length (size ∷ sizes)) [
      | true ↦ omega arith
      | false ↦ let rest = tier_from_low sizes (tier + 1) len in omega arith
    ]

pub tier_low : (len : ℕ) → tier_of len < 16
tier_low len = let most = tier_from_low (take 15 slot_sizes) 0 len in omega arith

none_is_some : (x : Option Held) (h : Held) → x ≡ None → x ≡ Some h → ⊥
none_is_some x h none some = let w : None ≡ Some h = sym none ∙ some in cc

nothing_counted : (x : Option Counted) (h : Counted) → x ≡ None → x ≡ Some h → ⊥
nothing_counted x h none some = let w : None ≡ Some h = sym none ∙ some in cc

one_place : (p q : Place) → p.bits ≡ q.bits → p.chunk ≡ q.chunk → p.place ≡ q.place → p ≡ q
one_place p q a b d = λ i. record { bits = a i; chunk = b i; place = d i }

-- the slot and the entry of a value that is placed
record IsNew (c : Column) (key : List ℕ) (tier s entry : ℕ) : Type 0 where
  full : entry ≢ 0
  carries : CarriesKey c.base key entry
  tier_is : entry_tier entry ≡ tier
  slot_is : entry_slot entry ≡ s

new_entry : (c : Column) (key : List ℕ) (tier s : ℕ) (now : Table) (h : Held) → tier < 16
    → Changes (c.tables tier) now s (Some h) → IsNew c key tier s (entry_of c.base key tier s)
new_entry c key tier s now h low ch =
    let within = held_within now s h ch.is ch.here in
    let narrow = ch.is.narrow in
    let most = within.1 in
    let parts = parts_of_entry c.base tier s key (omega arith) (omega arith) in
    record { full = entry_is_full c.base tier s key within.0; carries = parts.0; tier_is = parts.1; slot_is = parts.2 }

-- an entry that names the slot then is the new one
only_new : (c : Column) (tier s n place entry : ℕ) (now : Table) (p : Place) (e : ℕ) → IsColumn c → IsFixed c
    → held ((c.tables tier).slot s) ≡ None → slice_get (c.newest n) place ≡ Some 0
    → HasEntry (stepped c tier now (put_entry c n place entry)) p e → entry_tier e ≡ tier → entry_slot e ≡ s
    → (p.chunk ≡ n) × (p.place ≡ place) × (e ≡ entry)
only_new c tier s n place entry now p e is fixed none empty has a b =
    elim (entry_or c tier n place 0 entry now p e fixed empty has) [
      | Put x y same ↦ (x, y, same)
      | Stays ne old ↦
          let v = entry_holds c p e is old in
          absurd (none_is_some (held_by c e) v.value (ap (λ u. held ((c.tables u).slot (entry_slot e))) a ∙ (ap (λ i. held ((c.tables tier).slot i)) b ∙ none)) v.held_is)
    ]

pub inserting : (c : Column) (content : ColumnMap) (key : List ℕ) (count : ℕ) (value : List ℕ) (place : ℕ) → IsColumn c
    → IsFixed c → HoldsContent c content → content key ≡ None
    → IsTable (placed (c.tables (tier_of (length value))) key count value)
    → slice_get (c.newest (chunk_number c.bits key)) place ≡ Some 0
    → Keeps (inserted c key count value place) (with_under content key (Some (record { count = count; bytes = value })))
inserting c content key count value place is fixed is_held none table empty =
    let tier : ℕ = tier_of (length value) in
    let low = tier_low (length value) in
    let n : ℕ = chunk_number c.bits key in
    let s : ℕ = slot_for c (length value) in
    let now : Table = placed (c.tables tier) key count value in
    let h : Held = record { key = key; count = count; value = value } in
    let entry : ℕ = entry_of c.base key tier s in
    let ch : Changes (c.tables tier) now s (Some h) = placed_changes (c.tables tier) key count value (is.tables tier low) (is.settled tier low) table in
    let open_is : held ((c.tables tier).slot s) ≡ None = next_holds_none (c.tables tier) (is.tables tier low) in
    let new : IsNew c key tier s entry = new_entry c key tier s now h low ch in
    let of : IsOfKey c tier s now (Some h) key = record {
      low = low;
      change = ch;
      before = λ g e. absurd (none_is_some (held ((c.tables tier).slot s)) g open_is e);
      after = λ g e. ap (λ (h : Held). h.key) (one_held g h (sym e));
      alone = λ u i g lu e same. absurd (nothing_counted (content key) (record { count = g.count; bytes = g.value }) none
          (ap content (sym same) ∙ is_held.no_other g.key (record { count = g.count; bytes = g.value }) (u, i, lu, e)));
    } in
    stepped_keeps c content tier s now (Some h) key (put_entry c n place entry) (record { is = is; fixed = fixed; holds = is_held }) of (record {
      kept = λ p e has ne. entry_kept c tier n place entry now p e fixed has
          (λ a b. has.not_empty (sym (some_is 0 e (sym empty ∙ (ap (λ m. slice_get (c.newest m) place) (sym a) ∙ (ap (slice_get (c.newest p.chunk)) (sym b) ∙ entry_stands c p e fixed has))))));
      old = λ p e has ne. elim (entry_or c tier n place 0 entry now p e fixed empty has) [
        | Put x y same ↦ absurd (ne (ap entry_tier same ∙ new.tier_is) (ap entry_slot same ∙ new.slot_is))
        | Stays other old ↦ old
      ];
      new = λ p e has a b.
          let at = only_new c tier s n place entry now p e is fixed open_is empty has a b in
          let bits = entry_bits_are (stepped c tier now (put_entry c n place entry)) p e (stepped_fixed c tier now (put_entry c n place entry) fixed) has in
          (h, refl, ap (λ b. chunk_number b key) bits ∙ sym at.0, subst (CarriesKey c.base key) (sym at.2) new.carries);
      one = λ p q e f one other a b x y.
          let at = only_new c tier s n place entry now p e is fixed open_is empty one a b in
          let to = only_new c tier s n place entry now q f is fixed open_is empty other x y in
          let keeps = stepped_fixed c tier now (put_entry c n place entry) fixed in
          let bits = entry_bits_are (stepped c tier now (put_entry c n place entry)) p e keeps one in
          let bits2 = entry_bits_are (stepped c tier now (put_entry c n place entry)) q f keeps other in
          one_place p q (bits ∙ sym bits2) (at.0 ∙ sym to.0) (at.1 ∙ sym to.1);
      found = λ x e. (record { bits = c.bits; chunk = n; place = place }, entry, entry_put c tier n place 0 entry now (chunk_within c.bits key) new.full empty, new.tier_is, new.slot_is);
    })
