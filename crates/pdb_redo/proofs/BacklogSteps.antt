-- What steps on a map make of the places of cells.
use Rattle.std.proofs.Common.{◌≡◌, ◌⊎◌, inl, inr, ⊎_elim, ℕ, ◌+◌, ◌<◌, ◌≤◌, Bool, true, false, cond, List, length, Option, Some, None, BuildHasherDefault, FoldHasher, Result, Ok, Err, IsOk, OnOk, refl, sym, ap, subst, ◌∙◌, arith, rules}
use Rattle.std.specs.Prelude.{slice_get}
use Rattle.std.specs.HashMap.{HashMap, Updates, get}
use Rattle.std.proofs.lemmas.Bool.{cases_lt}
use Rattle.std.proofs.lemmas.Option.{slice_get_within}
use Rattle.pdb_cells.proofs.Names.{same_cell-refl, same_cell-true}
use Rattle.pdb_cells.specs.Puts.{same_cell}
use Rattle.pdb_cells.specs.declared.CellName.{CellName}
use Rattle.pdb_cells.specs.declared.Put.{Put}
use Rattle.pdb_redo.specs.declared.waiting.Place.{Place}
use Rattle.pdb_redo.specs.inner.Placing.{IsDroppedFrom, IsInRecord, IsPutAt, IsSetIn}

abbrev Places : Type 0
Places = HashMap CellName Place (BuildHasherDefault FoldHasher)

by_test : (a b : Places) (name q : CellName) (v : Option Place) (t : Bool) → same_cell name q ≡ t → get same_cell b q ≡ cond t v (get same_cell a q)
    → ((name ≡ q) × (get same_cell b q ≡ v)) ⊎ (get same_cell b q ≡ get same_cell a q)
by_test a b name q v true e is = inl (same_cell-true name q e, is)
by_test a b name q v false e is = inr is

-- one cell changes, and each other stays
updates_at : (a b : Places) (name : CellName) (v : Option Place) → Updates same_cell a b name v → (q : CellName)
    → ((name ≡ q) × (get same_cell b q ≡ v)) ⊎ (get same_cell b q ≡ get same_cell a q)
updates_at a b name v updates q = by_test a b name q v (same_cell name q) refl (updates.0 q)

pub dropped_by : (a b : Places) (name : CellName) (number : ℕ) (p : Place) → get same_cell a name ≡ Some p → p.number ≡ number → Updates same_cell a b name None
    → (q : CellName) → IsDroppedFrom number (get same_cell a q) (get same_cell b q)
dropped_by a b name number p there here updates q = ⊎_elim
    (λ at. inr (at.1, record { at = p; there = ap (get same_cell a) (sym at.0) ∙ there; here = here }))
    (λ same. inl same)
    (updates_at a b name None updates q)

-- ---- the places of puts, one after the other

abbrev pub NoneOfFirst : List Put → ℕ → CellName → Type 0
NoneOfFirst puts k name = (i : ℕ) (p : Put) → i < k → slice_get puts i ≡ Some p → p.name ≡ name → ⊥

abbrev pub AreSetBelow : List Put → ℕ → ℕ → Places → Places → Type 0
AreSetBelow puts number k old new = (name : CellName) → IsPutAt puts number name (get same_cell new name) ⊎ (NoneOfFirst puts k name × (get same_cell new name ≡ get same_cell old name))

-- what holds of the first ones, and of one more
one_more_of : (puts : List Put) (k : ℕ) (put : Put) (P : Put → Type 0) → ((i : ℕ) (p : Put) → i < k → slice_get puts i ≡ Some p → P p) → slice_get puts k ≡ Some put → P put
    → (i : ℕ) (p : Put) → i < k + 1 → slice_get puts i ≡ Some p → P p
one_more_of puts k put P below here is i p low e = ⊎_elim
    (λ less. below i p less e)
    (λ ge. let at : i ≡ k = omega (arith, low, ge) in
    let two : Some p ≡ Some put = sym e ∙ ap (slice_get puts) at ∙ here in
    let same : p ≡ put = cc in
    subst P (sym same) is)
    (cases_lt i k)

pub set_one : (puts : List Put) (number k : ℕ) (put : Put) (old a b : Places) → AreSetBelow puts number k old a → slice_get puts k ≡ Some put
    → Updates same_cell a b put.name (Some (record { number = number; at = k })) → AreSetBelow puts number (k + 1) old b
set_one puts number k put old a b below here updates name = ⊎_elim
    (λ at. inl (record { at = k; put = put; there = here; name_is = at.0; place_is = at.1 }))
    (λ same. ⊎_elim
    (λ at. inl (record { at = at.at; put = at.put; there = at.there; name_is = at.name_is; place_is = same ∙ at.place_is }))
    (λ other. set_or_not (same_cell put.name name) refl other same)
    (below name))
    (updates_at a b put.name (Some (record { number = number; at = k })) updates name)
  where
    set_or_not : (t : Bool) → same_cell put.name name ≡ t → NoneOfFirst puts k name × (get same_cell a name ≡ get same_cell old name) → get same_cell b name ≡ get same_cell a name
        → IsPutAt puts number name (get same_cell b name) ⊎ (NoneOfFirst puts (k + 1) name × (get same_cell b name ≡ get same_cell old name))
    set_or_not true e other same =
        let cell = same_cell-true put.name name e in
        inl (record { at = k; put = put; there = here; name_is = cell; place_is = ap (get same_cell b) (sym cell) ∙ updates.1 })
    set_or_not false e other same =
        inr (one_more_of puts k put (λ p. p.name ≡ name → ⊥) other.0 here (λ cell. let own = ap (same_cell put.name) (sym cell) in let whole = same_cell-refl put.name in cc), same ∙ other.1)

pub all_set : (puts : List Put) (number k : ℕ) (old new : Places) → length puts ≤ k → AreSetBelow puts number k old new → (name : CellName) → IsSetIn puts number name (get same_cell old name) (get same_cell new name)
all_set puts number k old new whole below name = ⊎_elim
    (λ at. inl at)
    (λ other. inr ((λ i p e named. other.0 i p (let low = slice_get_within puts i p e in omega (arith, low, whole)) e named), other.1))
    (below name)

pub inserted : {A E : Type 0} (r : Result A E) (P : Type 0) → OnOk r P → IsOk r → P
inserted (Ok a) P there is = there
inserted (Err e) P there is = absurd (search (is, rules))

-- ---- places dropped, one after the other

pub drops_joined : (number : ℕ) (a b c : Option Place) → IsDroppedFrom number a b → IsDroppedFrom number b c → IsDroppedFrom number a c
drops_joined number a b c first second = ⊎_elim
    (λ same. subst (IsDroppedFrom number a) (sym same) first)
    (λ gone. ⊎_elim
    (λ same. inr (gone.0, subst (λ o. IsInRecord o number) same gone.1))
    (λ before. inr (gone.0, before.1))
    first)
    second

none_in : (number : ℕ) (o : Option Place) → o ≡ None → IsInRecord o number → ⊥
none_in number o none is = let there = is.there in cc

pub drop_one : (puts : List Put) (number k : ℕ) (put : Put) (a b : Places) → ((i : ℕ) (p : Put) → i < k → slice_get puts i ≡ Some p → IsInRecord (get same_cell a p.name) number → ⊥)
    → ((q : CellName) → IsDroppedFrom number (get same_cell a q) (get same_cell b q)) → slice_get puts k ≡ Some put → (IsInRecord (get same_cell b put.name) number → ⊥)
    → (i : ℕ) (p : Put) → i < k + 1 → slice_get puts i ≡ Some p → IsInRecord (get same_cell b p.name) number → ⊥
drop_one puts number k put a b below drops here gone = one_more_of puts k put (λ p. IsInRecord (get same_cell b p.name) number → ⊥)
    (λ i p low e is. ⊎_elim
    (λ same. below i p low e (subst (λ o. IsInRecord o number) same is))
    (λ none. none_in number (get same_cell b p.name) none.0 is)
    (drops p.name))
    here gone
