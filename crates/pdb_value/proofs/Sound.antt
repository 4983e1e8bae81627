-- The steps keep a table's consistency.
use Rattle.std.proofs.Common.{◌≡◌, ◌+◌, ◌^◌, ◌<◌, ◌≤◌, ◌==◌, Bool, true, false, if◌then◌else◌, ℕ, List, [], ◌∷◌, refl, sym, ap, subst, ◌∙◌, arith, inl, inr, zero-add}
use Rattle.std.proofs.lemmas.Bool.Decides.{eqb_tells}
use Rattle.std.proofs.lemmas.Bool.{cases_lt}
use Rattle.pdb_model.specs.Tables.{Slot, Whole, Parted, Part, Free, Loose, Outside, Table, IsTable, Lists, times, times_free, first, with_slot, taken, holding, freed}

-- by whether two numbers are equal
pub same_or : (i s : ℕ) (P : Bool → Type 0) → (i ≡ s → P true) → ((i ≡ s → ⊥) → P false) → P (i == s)
same_or i s P hit miss = elim (eqb_tells i s) [ inl h ↦ subst P (sym h.0) (hit h.1) | inr h ↦ subst P (sym h.0) (miss h.1) ]

abbrev pub table : (ℕ → Slot) → List ℕ → ℕ → Table
table slot free end = record { slot = slot; free = free; end = end }

pub there : (slot : ℕ → Slot) (s : ℕ) (y : Slot) → with_slot slot s y s ≡ y
there slot s y = same_or s s (λ b. (if b then y else slot s) ≡ y) (λ _. refl) (λ ne. absurd (ne refl))

pub elsewhere : (slot : ℕ → Slot) (s : ℕ) (y : Slot) (i : ℕ) → (i ≡ s → ⊥) → with_slot slot s y i ≡ slot i
elsewhere slot s y i ne = same_or i s (λ b. (if b then y else slot i) ≡ slot i) (λ e. absurd (ne e)) (λ _. refl)

-- a slot that is no value in parts and no part
abbrev pub IsPlain : Slot → Type 0
IsPlain (Whole key count value) = Unit {0}
IsPlain (Parted key count value parts) = ⊥
IsPlain (Part head place bytes next) = ⊥
IsPlain Free = Unit {0}
IsPlain Loose = Unit {0}
IsPlain Outside = Unit {0}

pub plain_lists : (x : Slot) (j i : ℕ) → IsPlain x → Lists x j i → ⊥
plain_lists (Whole key count value) j i p l = l
plain_lists (Parted key count value parts) j i p l = p
plain_lists (Part head place bytes next) j i p l = p
plain_lists Free j i p l = l
plain_lists Loose j i p l = l
plain_lists Outside j i p l = l

pub at_most_once : (x : Slot) → times_free x ≤ 1
at_most_once (Whole key count value) = omega arith
at_most_once (Parted key count value parts) = omega arith
at_most_once (Part head place bytes next) = omega arith
at_most_once Free = omega arith
at_most_once Loose = omega arith
at_most_once Outside = omega arith

pub free_plain : (x : Slot) → 0 < times_free x → IsPlain x
free_plain (Whole key count value) h = tt
free_plain (Parted key count value parts) h = absurd (omega arith)
free_plain (Part head place bytes next) h = absurd (omega arith)
free_plain Free h = tt
free_plain Loose h = tt
free_plain Outside h = tt

-- ---- a plain slot becomes another plain one

pub record IsChange (t : Table) (s : ℕ) (y : Slot) (free : List ℕ) (end : ℕ) : Type 0 where
  pub is : IsTable t
  pub old_plain : IsPlain (t.slot s)
  pub new_plain : IsPlain y
  pub inside : y ≡ Outside → ⊥
  pub from_one : 1 ≤ s
  pub to_end : s ≤ end
  pub raised : t.end ≤ end
  pub no_further : (i : ℕ) → t.end < i → (i ≡ s → ⊥) → end < i
  pub narrow : end < 2 ^ 32
  pub once : (i : ℕ) → times i free ≡ times_free (with_slot t.slot s y i)

parts_kept : (slot : ℕ → Slot) (s : ℕ) (x y : Slot) (h i j : ℕ) (key : List ℕ) (count : ℕ) (value parts bytes : List ℕ) (next : ℕ) → IsPlain (slot s) → IsPlain y
    → with_slot slot s y h ≡ Parted key count value parts → (slot h ≡ Parted key count value parts → slot i ≡ Part h j bytes next) → with_slot slot s y i ≡ Part h j bytes next
parts_kept slot s x y h i j key count value parts bytes next old new is step =
    let ne : h ≡ s → ⊥ = λ e. subst IsPlain (sym (ap (with_slot slot s y) e ∙ there slot s y) ∙ is) new in
    let at : slot i ≡ Part h j bytes next = step (sym (elsewhere slot s y h ne) ∙ is) in
    elsewhere slot s y i (λ e. subst IsPlain (ap slot (sym e) ∙ at) old) ∙ at

owned_kept : (slot : ℕ → Slot) (s : ℕ) (y : Slot) (i h j : ℕ) (bytes : List ℕ) (next : ℕ) → IsPlain (slot s) → IsPlain y
    → with_slot slot s y i ≡ Part h j bytes next → (slot i ≡ Part h j bytes next → Lists (slot h) j i) → Lists (with_slot slot s y h) j i
owned_kept slot s y i h j bytes next old new is step =
    let ne : i ≡ s → ⊥ = λ e. subst IsPlain (sym (ap (with_slot slot s y) e ∙ there slot s y) ∙ is) new in
    let at : Lists (slot h) j i = step (sym (elsewhere slot s y i ne) ∙ is) in
    subst (λ x. Lists x j i) (sym (elsewhere slot s y h (λ e. plain_lists (slot s) j i old (subst (λ k. Lists (slot k) j i) e at)))) at

pub changed : (t : Table) (s : ℕ) (y : Slot) (free : List ℕ) (end : ℕ) → IsChange t s y free end → IsTable (table (with_slot t.slot s y) free end)
changed t s y free end c = record {
  once = c.once;
  above = λ i far. let raised = c.raised in let low = c.to_end in
      elsewhere t.slot s y i (λ e. omega arith) ∙ c.is.above i (omega arith);
  from_one = let low = c.from_one in elsewhere t.slot s y 0 (λ e. omega arith) ∙ c.is.from_one;
  narrow = c.narrow;
  within = λ i e some.
      let ne : i ≡ s → ⊥ = λ is. c.inside (sym (ap (with_slot t.slot s y) is ∙ there t.slot s y) ∙ e) in
      c.no_further i (c.is.within i (sym (elsewhere t.slot s y i ne) ∙ e) some) ne;
  parts = λ h key count value parts e j i at. parts_kept t.slot s y y h i j key count value parts _ _ c.old_plain c.new_plain e (λ is. c.is.parts h key count value parts is j i at);
  all_parts = λ h key count value parts e.
      let ne : h ≡ s → ⊥ = λ is. subst IsPlain (sym (ap (with_slot t.slot s y) is ∙ there t.slot s y) ∙ e) c.new_plain in
      c.is.all_parts h key count value parts (sym (elsewhere t.slot s y h ne) ∙ e);
  owned = λ i h j bytes next e. owned_kept t.slot s y i h j bytes next c.old_plain c.new_plain e (c.is.owned i h j bytes next);
}

-- ---- the free list

pub here : (s : ℕ) (rest : List ℕ) → 0 < times s (s ∷ rest)
here s rest = same_or s s (λ b. 0 < (if b then 1 else 0) + times s rest) (λ _. omega arith) (λ ne. absurd (ne refl))

-- what is on the free list is a slot of the tier
pub listed : (t : Table) (i : ℕ) → IsTable t → 0 < times i t.free → (0 < i) × (i ≤ t.end)
listed t i is on =
    let none : t.slot i ≡ Outside → ⊥ = λ e. let z = is.once i ∙ ap times_free e in omega arith in (
      elim (eqb_tells i 0) [ inl h ↦ absurd (none (ap t.slot h.1 ∙ is.from_one)) | inr h ↦ omega (arith, h.1) ],
      elim (cases_lt t.end i) [ inl h ↦ absurd (none (is.above i h)) | inr h ↦ h ],
    )

pub first_within : (slot : ℕ → Slot) (free : List ℕ) (end : ℕ) → IsTable (table slot free end) → first free ≤ end
first_within slot [] end is = omega arith
first_within slot (s ∷ rest) end is = (listed (table slot (s ∷ rest) end) s is (here s rest)).1

-- a slot that holds something is one of the tier
pub used_by : (t : Table) (i : ℕ) → IsTable t → (t.slot i ≡ Outside → ⊥) → (1 ≤ i) × (i ≤ t.end)
used_by t i is some = (
  elim (eqb_tells i 0) [ inl h ↦ absurd (some (ap t.slot h.1 ∙ is.from_one)) | inr h ↦ omega (arith, h.1) ],
  elim (cases_lt t.end i) [ inl h ↦ absurd (some (is.above i h)) | inr h ↦ h ],
)

once_popped : (b : Bool) (x : Slot) (n : ℕ) → (if b then 1 else 0) + n ≡ times_free x → n ≡ times_free (if b then Loose else x)
once_popped true x n e = let most = at_most_once x in omega arith
once_popped false x n e = sym (zero-add n) ∙ e

once_added : (i s : ℕ) (slot : ℕ → Slot) (y : Slot) (n : ℕ) → times_free (slot s) ≡ 0 → n ≡ times_free (slot i) → times_free y ≡ 0
    → n ≡ times_free (with_slot slot s y i)
once_added i s slot y n none e zero = same_or i s (λ b. n ≡ times_free (if b then y else slot i)) (λ h. e ∙ ap (λ k. times_free (slot k)) h ∙ none ∙ sym zero) (λ _. e)

once_pushed : (i s : ℕ) (slot : ℕ → Slot) (n : ℕ) → times_free (slot s) ≡ 0 → n ≡ times_free (slot i) → (if i == s then 1 else 0) + n ≡ times_free (with_slot slot s Free i)
once_pushed i s slot n none e =
    same_or i s (λ b. (if b then 1 else 0) + n ≡ times_free (if b then Free else slot i))
    (λ h. let zero : n ≡ 0 = e ∙ ap (λ k. times_free (slot k)) h ∙ none in omega arith)
    (λ _. zero-add n ∙ e)

loose_inside : Loose ≡ Outside → ⊥
loose_inside e = cc

free_inside : Free ≡ Outside → ⊥
free_inside e = cc

whole_inside : (key : List ℕ) (count : ℕ) (value : List ℕ) → Whole key count value ≡ Outside → ⊥
whole_inside key count value e = cc

pub take_sound : (slot : ℕ → Slot) (free : List ℕ) (end : ℕ) → IsTable (table slot free end) → (free ≡ [] → end + 1 < 2 ^ 32) → IsTable (taken (table slot free end))
take_sound slot [] end is room =
    let small = room refl in
    let out : slot (end + 1) ≡ Outside = is.above (end + 1) (omega arith) in
    changed (table slot [] end) (end + 1) Loose [] (end + 1) (record {
      is = is;
      old_plain = subst IsPlain (sym out) tt;
      new_plain = tt;
      inside = loose_inside;
      from_one = omega arith;
      to_end = omega arith;
      raised = omega arith;
      no_further = λ i far ne. omega (arith, ne);
      narrow = small;
      once = λ i. once_added i (end + 1) slot Loose 0 (ap times_free out) (is.once i) refl;
    })
take_sound slot (s ∷ rest) end is room =
    let on = listed (table slot (s ∷ rest) end) s is (here s rest) in
    changed (table slot (s ∷ rest) end) s Loose rest end (record {
      is = is;
      old_plain = free_plain (slot s) (subst (λ n. 0 < n) (is.once s) (here s rest));
      new_plain = tt;
      inside = loose_inside;
      from_one = omega arith;
      to_end = omega arith;
      raised = omega arith;
      no_further = λ i far ne. far;
      narrow = is.narrow;
      once = λ i. once_popped (i == s) (slot i) (times i rest) (is.once i);
    })

-- a slot of the table that is no part, isn't free and is no value in parts
pub record IsUsed (t : Table) (s : ℕ) : Type 0 where
  pub plain : IsPlain (t.slot s)
  pub none : times_free (t.slot s) ≡ 0
  pub some : t.slot s ≡ Outside → ⊥

pub loose_used : (t : Table) (s : ℕ) → t.slot s ≡ Loose → IsUsed t s
loose_used t s e = record { plain = subst IsPlain (sym e) tt; none = ap times_free e; some = λ o. loose_inside (sym e ∙ o) }

pub whole_used : (t : Table) (s : ℕ) (key : List ℕ) (count : ℕ) (value : List ℕ) → t.slot s ≡ Whole key count value → IsUsed t s
whole_used t s key count value e = record { plain = subst IsPlain (sym e) tt; none = ap times_free e; some = λ o. whole_inside key count value (sym e ∙ o) }

-- such a slot gets a whole value
pub hold_sound : (t : Table) (s : ℕ) (key : List ℕ) (count : ℕ) (value : List ℕ) → IsTable t → IsUsed t s → IsTable (holding t s key count value)
hold_sound t s key count value is has =
    let used = used_by t s is has.some in
    changed t s (Whole key count value) t.free t.end (record {
      is = is;
      old_plain = has.plain;
      new_plain = tt;
      inside = whole_inside key count value;
      from_one = used.0;
      to_end = used.1;
      raised = omega arith;
      no_further = λ i far ne. far;
      narrow = is.narrow;
      once = λ i. once_added i s t.slot (Whole key count value) (times i t.free) has.none (is.once i) refl;
    })

-- a slot between the steps of a change is freed
pub free_sound : (t : Table) (s : ℕ) → IsTable t → t.slot s ≡ Loose → IsTable (freed t s)
free_sound t s is loose =
    let used = used_by t s is (λ e. loose_inside (sym loose ∙ e)) in
    changed t s Free (s ∷ t.free) t.end (record {
      is = is;
      old_plain = subst IsPlain (sym loose) tt;
      new_plain = tt;
      inside = free_inside;
      from_one = used.0;
      to_end = used.1;
      raised = omega arith;
      no_further = λ i far ne. far;
      narrow = is.narrow;
      once = λ i. once_pushed i s t.slot (times i t.free) (ap times_free loose) (is.once i);
    })
