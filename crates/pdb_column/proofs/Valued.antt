-- What a column holds after a step: the table of one tier changed at one value's first slot.
use Rattle.std.proofs.Common.{◌≡◌, ◌<◌, ◌==◌, if◌then◌else◌, ℕ, List, Option, Some, None, refl, sym, ap, ◌∙◌, inl, inr}
use Rattle.std.proofs.lemmas.Bool.Decides.{eqb_tells}
use Rattle.sdb_base.specs.Content.{Counted}
use Rattle.pdb_model.specs.Columns.{Column, HoldsContent, IsUnder}
use Rattle.pdb_model.specs.Tables.{Held, Table, held}
use Rattle.pdb_column.specs.Maps.{ColumnMap}
use Rattle.pdb_column.specs.inner.Steps.{with_table, with_under}
use Rattle.pdb_column.proofs.Cases.{same_key_or, same_or}
use Rattle.pdb_column.proofs.Held.{Changes}

-- the column with this table of a tier, and these entries of the newest index
abbrev pub stepped : Column → ℕ → Table → (ℕ → List ℕ) → Column
stepped c tier now newest = record (with_table c tier now) { newest = newest }

-- what a slot of the column holds then
pub data Holds (c : Column) (tier s : ℕ) (what : Option Held) (u i : ℕ) (x : Option Held) : Type 0 where
  Here : u ≡ tier → i ≡ s → x ≡ what → Holds c tier s what u i x
  Other : (u ≡ tier → i ≡ s → ⊥) → x ≡ held ((c.tables u).slot i) → Holds c tier s what u i x

pub holds : (c : Column) (tier s : ℕ) (now : Table) (what : Option Held) (u i : ℕ) → Changes (c.tables tier) now s what
    → Holds c tier s what u i (held ((if u == tier then now else c.tables u).slot i))
holds c tier s now what u i ch =
    same_or u tier (λ b. Holds c tier s what u i (held ((if b then now else c.tables u).slot i)))
    (λ e. elim (eqb_tells i s) [
      | inl h ↦ Here e h.1 (ap (λ k. held (now.slot k)) h.1 ∙ ch.here)
      | inr h ↦ Other (λ _ q. h.1 q) (ch.others i h.1 ∙ ap (λ k. held ((c.tables k).slot i)) (sym e))
    ])
    (λ ne. Other (λ q _. ne q) refl)

-- the slot itself
pub holds_here : (c : Column) (tier s : ℕ) (now : Table) (what : Option Held) (u i : ℕ) → Changes (c.tables tier) now s what
    → u ≡ tier → i ≡ s
    → held ((if u == tier then now else c.tables u).slot i) ≡ what
holds_here c tier s now what u i ch e q = elim (holds c tier s now what u i ch) [ Here a b x ↦ x | Other ne x ↦ absurd (ne e q) ]

-- another one
pub holds_other : (c : Column) (tier s : ℕ) (now : Table) (what : Option Held) (u i : ℕ) → Changes (c.tables tier) now s what
    → (u ≡ tier → i ≡ s → ⊥)
    → held ((if u == tier then now else c.tables u).slot i) ≡ held ((c.tables u).slot i)
holds_other c tier s now what u i ch ne = elim (holds c tier s now what u i ch) [ Here a b x ↦ absurd (ne a b) | Other ne x ↦ x ]

-- what is held under a key, of what a slot holds
abbrev pub counted_of : Option Held → Option Counted
counted_of None = None
counted_of (Some h) = Some (record { count = h.count; bytes = h.value })

-- ---- what a step says of the values

-- The slot held nothing or this key's value, holds now nothing or this key's value, and no other slot holds this key.
pub record IsOfKey (c : Column) (tier s : ℕ) (now : Table) (what : Option Held) (key : List ℕ) : Type 0 where
  pub low : tier < 16
  pub change : Changes (c.tables tier) now s what
  pub before : (h : Held) → held ((c.tables tier).slot s) ≡ Some h → h.key ≡ key
  pub after : (h : Held) → what ≡ Some h → h.key ≡ key
  pub alone : (u i : ℕ) (h : Held) → u < 16 → held ((c.tables u).slot i) ≡ Some h → h.key ≡ key → (u ≡ tier) × (i ≡ s)

-- the values of the column then, by whether they are the one that changed
pub data Value (c : Column) (tier s : ℕ) (what : Option Held) (u i : ℕ) (h : Held) : Type 0 where
  New : u ≡ tier → i ≡ s → what ≡ Some h → Value c tier s what u i h
  Old : (u ≡ tier → i ≡ s → ⊥) → held ((c.tables u).slot i) ≡ Some h → Value c tier s what u i h

pub value : (c : Column) (tier s : ℕ) (now : Table) (what : Option Held) (u i : ℕ) (h : Held) → Changes (c.tables tier) now s what
    → held ((if u == tier then now else c.tables u).slot i) ≡ Some h → Value c tier s what u i h
value c tier s now what u i h ch is = elim (holds c tier s now what u i ch) [ Here e q x ↦ New e q (sym x ∙ is) | Other ne x ↦ Old ne (sym x ∙ is) ]

under_then : (what : Option Held) (key k : List ℕ) (x : Counted) → ((h : Held) → what ≡ Some h → h.key ≡ key) → key ≡ k
    → counted_of what ≡ Some x
    → what ≡ Some (record { key = k; count = x.count; value = x.bytes })
under_then None key k x after same e = absurd (cc)
under_then (Some h) key k x after same e =
    let made : Counted = record { count = h.count; bytes = h.value } in
    let is : made ≡ x = cc in
    ap (λ (y : Counted). Some (record { key = h.key; count = y.count; value = y.bytes })) is
    ∙ ap (λ (k : List ℕ). Some (record { key = k; count = x.count; value = x.bytes })) (after h refl ∙ same)

pub stepped_holds : (c : Column) (tier s : ℕ) (now : Table) (what : Option Held) (key : List ℕ) (newest : ℕ → List ℕ) (content : ColumnMap)
    → IsOfKey c tier s now what key → HoldsContent c content
    → HoldsContent (stepped c tier now newest) (with_under content key (counted_of what))
stepped_holds c tier s now what key newest content is h = record {
  there = λ k x long.
      same_key_or key k (λ b. (if b then counted_of what else content k) ≡ Some x → IsUnder (stepped c tier now newest) k x)
      (λ same e. (tier, s, is.low, holds_here c tier s now what tier s is.change refl refl ∙ under_then what key k x is.after same e))
      (λ ne e.
      let old : IsUnder c k x = h.there k x long e in
      (old.0, old.1, old.2, holds_other c tier s now what old.0 old.1 is.change (λ a b. ne (sym (is.before _ (sym (ap (λ u. held ((c.tables u).slot old.1)) a ∙ ap (λ i. held ((c.tables tier).slot i)) b) ∙ old.3)))) ∙ old.3));
  no_other = λ k x under. elim (value c tier s now what under.0 under.1 (record { key = k; count = x.count; value = x.bytes }) is.change under.3) [
    | New a b e ↦
        same_key_or key k (λ b. (if b then counted_of what else content k) ≡ Some x) (λ _. ap counted_of e) (λ ne. absurd (ne (sym (is.after _ e))))
    | Old other e ↦
        same_key_or key k (λ b. (if b then counted_of what else content k) ≡ Some x)
        (λ same. let at = is.alone under.0 under.1 _ under.2 e (sym same) in absurd (other at.0 at.1))
        (λ _. h.no_other k x (under.0, under.1, under.2, e))
  ];
}
