-- A column after a step: the table of one tier changed at one value's first slot, and the newest index with it.
use Rattle.std.proofs.Common.{◌≡◌, ◌<◌, ◌==◌, if◌then◌else◌, ℕ, List, Option, Some, sym, ap, subst, ◌∙◌, arith, inl, inr}
use Rattle.std.proofs.lemmas.Bool.Decides.{eqb_tells}
use Rattle.pdb_model.specs.Chunks.{CarriesKey, IsIndexEntry, chunk_number, entry_slot, entry_tier}
use Rattle.pdb_model.specs.Columns.{Column, HasEntry, HoldsContent, IsColumn, Place, end_of, held_by}
use Rattle.pdb_model.specs.Tables.{Held, IsSettled, IsTable, Table}
use Rattle.pdb_column.specs.Holding.{IsFixed}
use Rattle.pdb_column.specs.Maps.{ColumnMap}
use Rattle.pdb_column.specs.inner.Steps.{with_under}
use Rattle.pdb_column.proofs.Cases.{same_or}
use Rattle.pdb_column.proofs.Valued.{IsOfKey, New, Old, counted_of, holds_here, holds_other, stepped, stepped_holds, value}
use Rattle.pdb_column.proofs.Held.{Changes, held_within, one_held}

-- ---- what a step says of the entries

-- Which entries there are then: those that name other slots than the changed one as before, and if that slot holds a
-- value, one that names it.
pub record IsNamed (c : Column) (tier s : ℕ) (now : Table) (what : Option Held) (newest : ℕ → List ℕ) : Type 0 where
  pub kept : (p : Place) (e : ℕ) → HasEntry c p e → (entry_tier e ≡ tier → entry_slot e ≡ s → ⊥) → HasEntry (stepped c tier now newest) p e
  pub old : (p : Place) (e : ℕ) → HasEntry (stepped c tier now newest) p e → (entry_tier e ≡ tier → entry_slot e ≡ s → ⊥) → HasEntry c p e
  pub new : (p : Place) (e : ℕ) → HasEntry (stepped c tier now newest) p e → entry_tier e ≡ tier → entry_slot e ≡ s
      → (h : Held) × (what ≡ Some h) × (chunk_number p.bits h.key ≡ p.chunk) × CarriesKey c.base h.key e
  pub one : (p q : Place) (e f : ℕ) → HasEntry (stepped c tier now newest) p e → HasEntry (stepped c tier now newest) q f
      → entry_tier e ≡ tier → entry_slot e ≡ s → entry_tier f ≡ tier → entry_slot f ≡ s → p ≡ q
  pub found : (h : Held) → what ≡ Some h → (p : Place) × (e : ℕ) × HasEntry (stepped c tier now newest) p e × (entry_tier e ≡ tier) × (entry_slot e ≡ s)

-- whether an entry names a slot
pub names_or : (Q : Type 0) (e tier s : ℕ) → (entry_tier e ≡ tier → entry_slot e ≡ s → Q)
    → ((entry_tier e ≡ tier → entry_slot e ≡ s → ⊥) → Q) → Q
names_or Q e tier s hit miss =
    elim (eqb_tells (entry_tier e) tier) [
      | inl a ↦ elim (eqb_tells (entry_slot e) s) [ inl b ↦ hit a.1 b.1 | inr b ↦ miss (λ _ q. b.1 q) ]
      | inr a ↦ miss (λ q _. a.1 q)
    ]

-- an entry of a fixed column is one of its newest index
pub entry_bits_are : (c : Column) (p : Place) (e : ℕ) → IsFixed c → HasEntry c p e → p.bits ≡ c.bits
entry_bits_are c p e fixed has = elim has.there [ inl h ↦ h.0 | inr h ↦ let z = fixed.not_growing in let g = h.0 in absurd (omega arith) ]

stepped_table : (c : Column) (tier u : ℕ) (now : Table) (P : Table → Type 0) → P now → P (c.tables u)
    → P (if u == tier then now else c.tables u)
stepped_table c tier u now P a b = same_or u tier (λ t. P (if t then now else c.tables u)) (λ _. a) (λ _. b)

pub stepped_fixed : (c : Column) (tier : ℕ) (now : Table) (newest : ℕ → List ℕ) → IsFixed c → IsFixed (stepped c tier now newest)
stepped_fixed c tier now newest fixed = record { not_growing = fixed.not_growing; bits_are = fixed.bits_are }

-- an entry names a tier
pub entry_low : (c : Column) (p : Place) (e : ℕ) → IsColumn c → HasEntry c p e → entry_tier e < 16
entry_low c p e is has = elim (is.named p e has).0 [ inl z ↦ absurd (has.not_empty z) | inr h ↦ let low = h.0 in omega arith ]

-- an entry whose slot holds a value keeps the rule of entries
index_entry : (c : Column) (e : ℕ) (h : Held) → entry_tier e < 16 → ((u : ℕ) → u < 16 → IsTable (c.tables u))
    → held_by c e ≡ Some h → IsIndexEntry (end_of c) e
index_entry c e h low tables holds =
    let within = held_within (c.tables (entry_tier e)) (entry_slot e) h (tables (entry_tier e) low) holds in inr (omega arith, within.0, within.1)

pub stepped_is : (c : Column) (tier s : ℕ) (now : Table) (what : Option Held) (key : List ℕ) (newest : ℕ → List ℕ)
    → IsColumn c → IsFixed c → IsOfKey c tier s now what key
    → IsNamed c tier s now what newest → IsColumn (stepped c tier now newest)
stepped_is c tier s now what key newest is fixed of named =
    let last : Column = stepped c tier now newest in
    let tables : (u : ℕ) → u < 16 → IsTable (last.tables u) = λ u low. stepped_table c tier u now IsTable of.change.is (is.tables u low) in record {
      tables = tables;
      settled = λ u low. stepped_table c tier u now IsSettled of.change.settled (is.settled u low);
      named = λ p e has.
          names_or (IsIndexEntry (end_of last) e × ((h : Held) × (held_by last e ≡ Some h) × (chunk_number p.bits h.key ≡ p.chunk) × CarriesKey c.base h.key e)) e tier s
          (λ a b.
          let n = named.new p e has a b in
          let holds : held_by last e ≡ Some n.0 = holds_here c tier s now what (entry_tier e) (entry_slot e) of.change a b ∙ n.1 in
          (index_entry last e n.0 (subst (λ u. u < 16) (sym a) of.low) tables holds, (n.0, holds, n.2, n.3)))
          (λ ne.
          let old = named.old p e has ne in
          let n = is.named p e old in
          let holds : held_by last e ≡ Some n.1.0 = holds_other c tier s now what (entry_tier e) (entry_slot e) of.change ne ∙ n.1.1 in
          (index_entry last e n.1.0 (entry_low c p e is old) tables holds, (n.1.0, holds, n.1.2, n.1.3)));
      once = λ p q e f he hf te se.
          names_or (p ≡ q) e tier s
          (λ a b. named.one p q e f he hf a b (sym te ∙ a) (sym se ∙ b))
          (λ ne. is.once p q e f (named.old p e he ne) (named.old q f hf (λ a b. ne (te ∙ a) (se ∙ b))) te se);
      found = λ u i h low e. elim (value c tier s now what u i h of.change e) [
        | New a b w ↦ let f = named.found h w in (f.0, f.1, f.2, f.3 ∙ sym a, f.4 ∙ sym b)
        | Old ne w ↦ let f = is.found u i h low w in (f.0, f.1, named.kept f.0 f.1 f.2 (λ a b. ne (sym f.3 ∙ a) (sym f.4 ∙ b)), f.3, f.4)
      ];
      keys = λ t i u j g h lt lu eg eh same. elim (value c tier s now what t i g of.change eg) [
        | New a b w ↦ elim (value c tier s now what u j h of.change eh) [
          | New a2 b2 w2 ↦ (a ∙ sym a2, b ∙ sym b2)
          | Old ne w2 ↦ let at = of.alone u j h lu w2 (sym same ∙ of.after g w) in absurd (ne at.0 at.1)
        ]
        | Old ne w ↦ elim (value c tier s now what u j h of.change eh) [
          | New a2 b2 w2 ↦ let at = of.alone t i g lt w (same ∙ of.after h w2) in absurd (ne at.0 at.1)
          | Old ne2 w2 ↦ is.keys t i u j g h lt lu w w2 same
        ]
      ];
      unmoved = λ p q e f he hf more near.
          let keeps = stepped_fixed c tier now newest fixed in
          let one = entry_bits_are last p e keeps he in
          let other = entry_bits_are last q f keeps hf in omega arith;
    }

-- ---- a step of a fixed column

-- the column is one of fixed index, and holds this content
pub record Keeps (c : Column) (content : ColumnMap) : Type 0 where
  pub is : IsColumn c
  pub fixed : IsFixed c
  pub holds : HoldsContent c content

pub stepped_keeps : (c : Column) (content : ColumnMap) (tier s : ℕ) (now : Table) (what : Option Held) (key : List ℕ) (newest : ℕ → List ℕ)
    → Keeps c content → IsOfKey c tier s now what key
    → IsNamed c tier s now what newest → Keeps (stepped c tier now newest) (with_under content key (counted_of what))
stepped_keeps c content tier s now what key newest keeps of named = record {
  is = stepped_is c tier s now what key newest keeps.is keeps.fixed of named;
  fixed = stepped_fixed c tier now newest keeps.fixed;
  holds = stepped_holds c tier s now what key newest content of keeps.holds;
}

-- the slot of an entry gets nothing, or another value of its key
pub entry_of_key : (c : Column) (p : Place) (entry : ℕ) (h : Held) (now : Table) (what : Option Held) → IsColumn c
    → HasEntry c p entry → held_by c entry ≡ Some h
    → Changes (c.tables (entry_tier entry)) now (entry_slot entry) what → ((g : Held) → what ≡ Some g → g.key ≡ h.key)
    → IsOfKey c (entry_tier entry) (entry_slot entry) now what h.key
entry_of_key c p entry h now what is has holds ch after = record {
  low = entry_low c p entry is has;
  change = ch;
  before = λ g e. ap (λ (h : Held). h.key) (one_held g h (sym e ∙ holds));
  after = after;
  alone = λ u i g low e same. is.keys u i (entry_tier entry) (entry_slot entry) g h low (entry_low c p entry is has) e holds same;
}
