-- What the entries of a key's chunk say of the key.
use Rattle.std.proofs.Common.{◌≡◌, ◌≢◌, ◌+◌, ◌-◌, ◌/◌, ◌<◌, ◌^◌, ℕ, List, Some, length, refl, sym, ap, subst, ◌∙◌, arith, inl, inr}
use Rattle.std.specs.Prelude.{slice_get}
use Rattle.std.proofs.Math.Nat.{mod-lt}
use Rattle.std.proofs.lemmas.Nat.{pow_pos}
use Rattle.sdb_base.specs.Content.{Counted}
use Rattle.pdb_model.specs.Chunks.{CarriesKey, chunk_number, front_of, entry_slot, entry_tier}
use Rattle.pdb_model.specs.Columns.{Column, HasEntry, HoldsContent, IsColumn, Place, held_by}
use Rattle.pdb_model.specs.Tables.{Held, held}
use Rattle.pdb_column.specs.Holding.{IsFixed}
use Rattle.pdb_column.specs.Maps.{ColumnMap}
use Rattle.pdb_column.proofs.Held.{one_held}
use Rattle.pdb_column.proofs.Stepped.{entry_bits_are, entry_low}

-- an entry of the newest index's chunk that isn't the empty one
pub chunk_entry : (c : Column) (n place e : ℕ) → n < 2 ^ c.bits → slice_get (c.newest n) place ≡ Some e → e ≢ 0
    → HasEntry c (record { bits = c.bits; chunk = n; place = place }) e
chunk_entry c n place e within at full = record { not_empty = full; within = within; there = inl (refl, at) }

-- an entry of a fixed column stands in its newest index
pub entry_stands : (c : Column) (p : Place) (e : ℕ) → IsFixed c → HasEntry c p e → slice_get (c.newest p.chunk) p.place ≡ Some e
entry_stands c p e fixed has = elim has.there [ inl h ↦ h.1 | inr h ↦ let z = fixed.not_growing in let g = h.0 in absurd (omega arith) ]

-- the chunk of a key is one of the index
pub chunk_within : (bits : ℕ) (key : List ℕ) → chunk_number bits key < 2 ^ bits
chunk_within bits key = mod-lt (front_of key / 2 ^ (64 - (0 + bits))) (pow_pos bits)

-- each entry names a slot that holds a value of the entry's chunk, whose bits it carries
pub record IsValueOf (c : Column) (p : Place) (e : ℕ) : Type 0 where
  pub value : Held
  pub held_is : held_by c e ≡ Some value
  pub chunk_is : chunk_number p.bits value.key ≡ p.chunk
  pub carries : CarriesKey c.base value.key e

pub entry_holds : (c : Column) (p : Place) (e : ℕ) → IsColumn c → HasEntry c p e → IsValueOf c p e
entry_holds c p e is has = let n = (is.named p e has).1 in record { value = n.0; held_is = n.1; chunk_is = n.2; carries = n.3 }

-- what an entry's slot holds is held under its key
pub entry_counted : (c : Column) (content : ColumnMap) (p : Place) (e : ℕ) (h : Held) → IsColumn c → HoldsContent c content
    → HasEntry c p e → held_by c e ≡ Some h
    → content h.key ≡ Some (record { count = h.count; bytes = h.value })
entry_counted c content p e h is holds has at = holds.no_other h.key (record { count = h.count; bytes = h.value }) (entry_tier e, entry_slot e, entry_low c p e is has, at)

-- the same of a key that is compared
pub key_counted : (c : Column) (content : ColumnMap) (p : Place) (e : ℕ) (h : Held) (key : List ℕ) → IsColumn c
    → HoldsContent c content → HasEntry c p e → held_by c e ≡ Some h → h.key ≡ key
    → content key ≡ Some (record { count = h.count; bytes = h.value })
key_counted c content p e h key is holds has at same = ap content (sym same) ∙ entry_counted c content p e h is holds has at

-- an entry of a key's chunk that carries its bits, and whose slot holds the key with its count and its value
pub record IsFoundAt (c : Column) (key : List ℕ) (h : Counted) : Type 0 where
  pub place : Place
  pub entry : ℕ
  pub bits_are : place.bits ≡ c.bits
  pub chunk_is : place.chunk ≡ chunk_number c.bits key
  pub has : HasEntry c place entry
  pub stands : slice_get (c.newest (chunk_number c.bits key)) place.place ≡ Some entry
  pub carries : CarriesKey c.base key entry
  pub held_is : held_by c entry ≡ Some (record { key = key; count = h.count; value = h.bytes })

pub key_found : (c : Column) (content : ColumnMap) (key : List ℕ) (h : Counted) → IsColumn c → IsFixed c
    → HoldsContent c content → length key ≡ 32 → content key ≡ Some h → IsFoundAt c key h
key_found c content key h is fixed holds long at =
    let under = holds.there key h long at in
    let value : Held = record { key = key; count = h.count; value = h.bytes } in
    let found = is.found under.0 under.1 value under.2 under.3 in
    let p : Place = found.0 in
    let e : ℕ = found.1 in
    let has : HasEntry c p e = found.2 in
    let holds : held_by c e ≡ Some value = ap (λ u. held ((c.tables u).slot (entry_slot e))) found.3 ∙ (ap (λ i. held ((c.tables under.0).slot i)) found.4 ∙ under.3) in
    let named = entry_holds c p e is has in
    let key_is : named.value.key ≡ key = ap (λ (h : Held). h.key) (one_held named.value value (sym named.held_is ∙ holds)) in
    let bits = entry_bits_are c p e fixed has in
    let chunk : p.chunk ≡ chunk_number c.bits key = sym named.chunk_is ∙ (ap (λ (k : List ℕ). chunk_number p.bits k) key_is ∙ ap (λ b. chunk_number b key) bits) in record {
      place = p;
      entry = e;
      bits_are = bits;
      chunk_is = chunk;
      has = has;
      stands = ap (λ n. slice_get (c.newest n) p.place) (sym chunk) ∙ entry_stands c p e fixed has;
      carries = subst (λ (k : List ℕ). CarriesKey c.base k e) key_is named.carries;
      held_is = holds;
    }
