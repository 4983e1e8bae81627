-- Faults of reads, as those of a column.
use Rattle.std.proofs.Common.{◌≡◌, ◌≢◌, ◌≤◌, ℕ, Some, None, Option, Err, true, false, refl, sym, subst, ◌∙◌, arith, inl, inr}
use Rattle.std.specs.Prelude.{List, Bool}
use Rattle.sdb_base.specs.Content.{Counted}
use Rattle.pdb_cells.specs.Content.{Content}
use Rattle.pdb_model.specs.Breaks.{IsBrokenHead}
use Rattle.pdb_value.specs.Faults.{FaultSays, NoTier, disk_fails}
use Rattle.pdb_model.specs.Tables.{Held}
use Rattle.pdb_value.specs.Values.{BreaksValue, IsReadOf}
use Rattle.pdb_value.specs.declared.fault.ValueFault.{ValueFault}
use Rattle.pdb_value.specs.declared.fault.ValueFault.TheVariants.{Damaged, Disk, OutOfMemory, TierFull}
use Rattle.pdb_column.specs.Answers.{IsGot, LookUpSays, look_up_disk_fails}
use Rattle.pdb_column.specs.Damages.{BreaksColumn}
use Rattle.pdb_column.specs.inner.Faults.{as_look_up}
use Rattle.pdb_model.specs.Chunks.{CarriesKey}
use Rattle.pdb_value.specs.Values.{IsCountOf}
use Rattle.std.specs.Option.{is_some}
use Rattle.pdb_column.specs.inner.Changes.{IsOfKey}
use Rattle.pdb_column.specs.inner.KeyChunks.{IsReadAt, NamesHeld}

pub head_breaks : (cells : Content) (column : ℕ) (e : ValueFault) → FaultSays (IsBrokenHead cells column) NoTier e → FaultSays (BreaksColumn cells column) NoTier e
head_breaks cells column OutOfMemory h = tt
head_breaks cells column Disk h = tt
head_breaks cells column (Damaged file cell) h = inl h
head_breaks cells column (TierFull tier) h = h

pub value_breaks : (cells : Content) (column tier : ℕ) (e : ValueFault) → tier ≤ 15 → FaultSays (BreaksValue cells column tier) NoTier e → FaultSays (BreaksColumn cells column) NoTier e
value_breaks cells column tier OutOfMemory low h = tt
value_breaks cells column tier Disk low h = tt
value_breaks cells column tier (Damaged file cell) low (inl head) = inl head
value_breaks cells column tier (Damaged file cell) low (inr slot) = inr (inr (inr (tier, omega arith, slot)))
value_breaks cells column tier (TierFull u) low h = h

pub as_said : (P : ℕ → ℕ → Type 0) (e : ValueFault) → FaultSays P NoTier e → LookUpSays P (as_look_up e)
as_said P OutOfMemory h = tt
as_said P Disk h = tt
as_said P (Damaged file cell) h = h
as_said P (TierFull tier) h = absurd h

pub same_fails : (T U : Type 0) (e : ValueFault) → look_up_disk_fails {T = T} (Err (as_look_up e)) ≡ disk_fails {T = U} (Err e)
same_fails T U OutOfMemory = refl
same_fails T U Disk = refl
same_fails T U (Damaged file cell) = refl
same_fails T U (TierFull tier) = refl

pub read_as : (base entry : ℕ) (h : Held) (key before after : List ℕ) (b : Bool) → IsReadOf h key before after b → IsReadAt base entry h key after b
read_as base entry h key before after true is = is
read_as base entry h key before after false is = λ _. is.0

pub got_none : (o : Option Counted) (before after : List ℕ) → after ≡ before → ((h : Counted) → o ≡ Some h → ⊥) → IsGot o before after false
got_none None before after e none = (refl, e)
got_none (Some h) before after e none = absurd (none h refl)

pub got_some : (o : Option Counted) (h : Counted) (before after : List ℕ) → o ≡ Some h → after ≡ h.bytes → IsGot o before after true
got_some o h before after is e = subst (λ o. IsGot o before after true) (sym is) (refl, e)

-- an entry whose value was not read isn't the key's
pub not_here : (cells : Content) (column base at e : ℕ) (h : Held) (key after : List ℕ) (b : Bool) → e ≡ at → b ≡ false → (at ≢ 0 → NamesHeld cells column at h → IsReadAt base at h key after b)
    → e ≢ 0 → NamesHeld cells column e h → CarriesKey base key e → h.key ≢ key
not_here cells column base at e h key after b is f read some named carries =
    subst (λ b. IsReadAt base at h key after b) f (read (λ z. some (is ∙ z)) (subst (λ n. NamesHeld cells column n h) is named)) (subst (CarriesKey base key) is carries)

pub counted_of_key : (base entry : ℕ) (h : Held) (key : List ℕ) (o : Option ℕ) → IsCountOf h key o → IsOfKey base entry h key (is_some o)
counted_of_key base entry h key None is = λ _. is
counted_of_key base entry h key (Some n) is = is.0

-- an entry whose slot doesn't hold the key isn't its entry
pub not_of_key : (cells : Content) (column base at e : ℕ) (h : Held) (key : List ℕ) (b : Bool) → e ≡ at → b ≡ false → (at ≢ 0 → NamesHeld cells column at h → IsOfKey base at h key b)
    → e ≢ 0 → NamesHeld cells column e h → CarriesKey base key e → h.key ≢ key
not_of_key cells column base at e h key b is f read some named carries =
    subst (λ b. IsOfKey base at h key b) f (read (λ z. some (is ∙ z)) (subst (λ n. NamesHeld cells column n h) is named)) (subst (CarriesKey base key) is carries)

pub value_breaks_then : (P : Content → Type 0) (column tier : ℕ) (e : ValueFault) → tier ≤ 15 → FaultSays (λ file cell. (x : Content) × P x × BreaksValue x column tier file cell) NoTier e
    → FaultSays (λ file cell. (x : Content) × P x × BreaksColumn x column file cell) NoTier e
value_breaks_then P column tier OutOfMemory low h = tt
value_breaks_then P column tier Disk low h = tt
value_breaks_then P column tier (Damaged file cell) low (x, p, inl head) = (x, p, inl head)
value_breaks_then P column tier (Damaged file cell) low (x, p, inr slot) = (x, p, inr (inr (inr (tier, omega arith, slot))))
value_breaks_then P column tier (TierFull u) low h = h
