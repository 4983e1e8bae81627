-- No cell twice: of puts before and after, and by keys.
use Rattle.std.proofs.Common.{◌≡◌, ◌<◌, ◌≤◌, ◌⊎◌, inl, inr, ⊎_elim, ◌==◌, ◌&&◌, ℕ, Bool, true, false, cond, List, [], ◌∷◌, ◌++◌, length, take, drop, get_or, Option, Some, None, Result, Ok, Err, IfOk, is_ok, All, refl, sym, ap, ap₂, subst, ◌∙◌, arith}
use Rattle.std.specs.Cmp.{IsTotalOrder, tied_then}
use Rattle.std.specs.List.{HoldsAt, insert}
use Rattle.std.specs.List.Sorted.{IsBinarySearchResult, IsPartitionPoint, IsSearchInRange}
use Rattle.std.specs.Option.{option_or}
use Rattle.std.specs.Ordering.{is_eq, is_le, is_some_and, nat_cmp, ordering_index, ordering_reverse, ordering_then, partial_ordering_then}
use Rattle.std.specs.declared.cmp.Ordering.{Ordering}
use Rattle.std.specs.declared.cmp.Ordering.TheVariants.{Less, Equal, Greater}
use Rattle.std.proofs.lemmas.Bool.Decides.{nat_tests}
use Rattle.std.proofs.lemmas.Cmp.{alike_right, nat_cmp_total, nat_eq_equiv, on_total, then_total}
use Rattle.std.proofs.lemmas.List.{take_at, drop_at, take-append-drop}
use Rattle.std.proofs.lemmas.List.Elements.{All-append, All-cons, All-drop, All-head, All-nil, All-push, All-tail, All-take}
use Rattle.std.proofs.lemmas.List.Sorted.{IsNonDecreasingBy-insert}
use Rattle.pdb_cells.specs.Names.{name_cmp}
use Rattle.pdb_cells.specs.Puts.{NoCellTwice, last_put, same_cell}
use Rattle.pdb_cells.specs.declared.CellName.{CellName}
use Rattle.pdb_cells.specs.declared.Put.{Put}
use Rattle.pdb_record.specs.inner.Blocks.{Ascends, Covers, IsApart, IsNew, is_key, key_cmp, key_of}

-- ---- parts of lists

pub all_left : {X : Type 0} (P : X → Type 0) (xs ys : List X) → All P (xs ++ ys) → All P xs
all_left P xs ys all = subst (All P) (take_at xs ys (length xs) refl) (All-take P (length xs) (xs ++ ys) all)

pub all_right : {X : Type 0} (P : X → Type 0) (xs ys : List X) → All P (xs ++ ys) → All P ys
all_right P xs ys all = subst (All P) (drop_at xs ys (length xs) refl) (All-drop P (length xs) (xs ++ ys) all)

-- ---- puts of one cell

pub same_cell-flip : (a b : CellName) → same_cell a b ≡ same_cell b a
same_cell-flip a b = ap₂ (λ (s t : Bool). s && t) (nat_eq_equiv.symm a.file b.file) (nat_eq_equiv.symm a.index b.index)

true_or_false : (t : Bool) → (t ≡ true) ⊎ (t ≡ false)
true_or_false true = inl refl
true_or_false false = inr refl

or_none : {A : Type 0} (o : Option A) → option_or o None ≡ o
or_none None = refl
or_none (Some x) = refl

never_none : {A : Type 0} (o : Option A) (x : A) → option_or o (Some x) ≡ None → ⊥
never_none None x e = cc
never_none (Some y) x e = cc

pub last_none : (ps : List Put) (n : CellName) → IsNew n ps → last_put ps n ≡ None
last_none [] n new = refl
last_none (p ∷ ps) n new =
    ap₂ (λ (o : Option (List ℕ)) (t : Bool). option_or o (cond t (Some p.bytes) None))
    (last_none ps n (All-tail (λ (q : Put). same_cell q.name n ≡ false) p ps new)) (All-head (λ (q : Put). same_cell q.name n ≡ false) p ps new)

pub new_last : (ps : List Put) (n : CellName) → last_put ps n ≡ None → IsNew n ps
new_last [] n e = All-nil (λ (q : Put). same_cell q.name n ≡ false)
new_last (p ∷ ps) n e = ⊎_elim
    (λ here. absurd (never_none (last_put ps n) p.bytes (sym (ap (λ (t : Bool). option_or (last_put ps n) (cond t (Some p.bytes) None)) here) ∙ e)))
    (λ other. All-cons (λ (q : Put). same_cell q.name n ≡ false) p ps other
    (new_last ps n (sym (or_none (last_put ps n)) ∙ (sym (ap (λ (t : Bool). option_or (last_put ps n) (cond t (Some p.bytes) None)) other) ∙ e))))
    (true_or_false (same_cell p.name n))

pub once_back : (f b : List Put) → NoCellTwice (f ++ b) → NoCellTwice b
once_back [] b once = once
once_back (x ∷ f) b once = once_back f b once.1

-- the cells of later puts are none of those before
pub once_apart : (f b : List Put) → NoCellTwice (f ++ b) → All (λ p. IsNew p.name f) b
once_apart [] b once = λ k d within. All-nil (λ (q : Put). same_cell q.name (get_or b k d).name ≡ false)
once_apart (x ∷ f) b once = λ k d within.
    let new : IsNew x.name b = all_right (λ (q : Put). same_cell q.name x.name ≡ false) f b (new_last (f ++ b) x.name once.0) in
    All-cons (λ (q : Put). same_cell q.name (get_or b k d).name ≡ false) x f (same_cell-flip x.name (get_or b k d).name ∙ new k d within) (once_apart f b once.1 k d within)

pub once_join : (f b : List Put) → NoCellTwice f → NoCellTwice b → All (λ p. IsNew p.name f) b → NoCellTwice (f ++ b)
once_join [] b front back apart = back
once_join (x ∷ f) b front back apart =
    let later : IsNew x.name b = λ k d within. same_cell-flip (get_or b k d).name x.name ∙ All-head (λ (q : Put). same_cell q.name (get_or b k d).name ≡ false) x f (apart k d within) in
    let inside : IsNew x.name f = new_last f x.name front.0 in (
      last_none (f ++ b) x.name (All-append (λ (q : Put). same_cell q.name x.name ≡ false) f b inside later),
      once_join f b front.1 back (λ k d within. All-tail (λ (q : Put). same_cell q.name (get_or b k d).name ≡ false) x f (apart k d within)),
    )

pub once_push : (f : List Put) (p : Put) → NoCellTwice f → IsNew p.name f → NoCellTwice (f ++ p ∷ [])
once_push f p front new = once_join f (p ∷ []) front (refl, tt) (All-cons (λ (q : Put). IsNew q.name f) p [] new (All-nil (λ (q : Put). IsNew q.name f)))

-- ---- keys in order

pub key_total : IsTotalOrder key_cmp
key_total = then_total (on_total (λ (k : ℕ × ℕ). k.0) nat_cmp_total) (on_total (λ (k : ℕ × ℕ). k.1) nat_cmp_total)

is_eq-nat_cmp : (a b : ℕ) → is_eq (nat_cmp a b) ≡ (a == b)
is_eq-nat_cmp a b = grind (arith, nat_tests)

pub is_eq-key_cmp : (k : ℕ × ℕ) (n : CellName) → is_eq (key_cmp k (key_of n)) ≡ is_key k n
is_eq-key_cmp k n = sym (tied_then (nat_cmp k.0 n.file) (nat_cmp k.1 n.index)) ∙ ap₂ (λ (s t : Bool). s && t) (is_eq-nat_cmp k.0 n.file) (is_eq-nat_cmp k.1 n.index)

low_or_high : (j i : ℕ) → (j < i) ⊎ (i ≤ j)
low_or_high j i = grind arith

differ : (t : Bool) → t ≡ true → t ≡ false → ⊥
differ t p q = cc

pub flipped : (a b : ℕ × ℕ) → key_cmp a b ≡ Greater → key_cmp b a ≡ Less
flipped a b e = key_total.antisymm b a ∙ ap ordering_reverse e

under : (o p : Ordering) → o ≡ Less → ordering_index o ≤ ordering_index p
under o p e = subst (λ (q : Ordering). ordering_index q ≤ ordering_index p) (sym e) (omega arith)

at_most_two : (o : Ordering) → ordering_index o ≤ 2
at_most_two Less = omega arith
at_most_two Equal = omega arith
at_most_two Greater = omega arith

over : (o p : Ordering) → p ≡ Greater → ordering_index o ≤ ordering_index p
over o p e = subst (λ (q : Ordering). ordering_index o ≤ ordering_index q) (sym e) (at_most_two o)

rises_at : (a b x : ℕ × ℕ) (o : Ordering) → key_cmp b x ≡ o → key_cmp a b ≡ Less → ordering_index (key_cmp a x) ≤ ordering_index (key_cmp b x)
rises_at a b x Less e below = under (key_cmp a x) (key_cmp b x) (key_total.trans a b x below e)
rises_at a b x Equal e below = under (key_cmp a x) (key_cmp b x) (sym (alike_right key_total b x a e) ∙ below)
rises_at a b x Greater e below = over (key_cmp a x) (key_cmp b x) e

pub rises_with : (a b x : ℕ × ℕ) → key_cmp a b ≡ Less → ordering_index (key_cmp a x) ≤ ordering_index (key_cmp b x)
rises_with a b x below = rises_at a b x (key_cmp b x) refl below

-- where a key belongs among keys that rise
abbrev pub Belongs : List (ℕ × ℕ) → ℕ × ℕ → ℕ → Type 0
Belongs keys k i = IsPartitionPoint (λ m. key_cmp m k ≡ Less) (λ m. key_cmp m k ≡ Greater) keys i

pub ascends_insert : (keys : List (ℕ × ℕ)) (k : ℕ × ℕ) (i : ℕ) → Ascends keys → i ≤ length keys → Belongs keys k i → Ascends (insert keys i k)
ascends_insert keys k i ascends within here = λ x. IsNonDecreasingBy-insert (λ m. ordering_index (key_cmp m x)) keys i k (ascends x) within
    (λ j d low. rises_with (get_or keys j d) k x (here.0 j d (omega arith) low))
    (λ j d high last. rises_with k (get_or keys j d) x (flipped (get_or keys j d) k (here.1 j d high last)))

pub apart_there : (keys : List (ℕ × ℕ)) (n : CellName) (i : ℕ) → Belongs keys (key_of n) i → IsApart n keys
apart_there keys n i here = λ j d within. sym (is_eq-key_cmp (get_or keys j d) n) ∙ ⊎_elim
    (λ low. ap is_eq (here.0 j d (omega arith) low))
    (λ high. ap is_eq (here.1 j d high within))
    (low_or_high j i)

pub found_there : (keys : List (ℕ × ℕ)) (n : CellName) (i : ℕ) → i < length keys → HoldsAt (λ m. key_cmp m (key_of n) ≡ Equal) keys i → ¬ IsApart n keys
found_there keys n i within here = λ apart.
    let same : is_key (get_or keys i (key_of n)) n ≡ true = sym (is_eq-key_cmp (get_or keys i (key_of n)) n) ∙ ap is_eq (here (key_of n)) in
    let other : is_key (get_or keys i (key_of n)) n ≡ false = apart i (key_of n) within in
    differ (is_key (get_or keys i (key_of n)) n) same other

-- what a search answers
pub found_search : (keys : List (ℕ × ℕ)) (n : CellName) (r : Result ℕ ℕ) → IsSearchInRange r (length keys) → IfOk r (HoldsAt (λ m. key_cmp m (key_of n) ≡ Equal) keys)
    → is_ok r ≡ true → ¬ IsApart n keys
found_search keys n (Ok i) within here e = found_there keys n i within here
found_search keys n (Err i) within here e = cc

pub apart_search : (keys : List (ℕ × ℕ)) (n : CellName) (r : Result ℕ ℕ) → Ascends keys → IsBinarySearchResult (λ m. key_cmp m (key_of n)) keys r
    → is_ok r ≡ false → IsApart n keys
apart_search keys n (Ok i) ascends here e = cc
apart_search keys n (Err i) ascends here e = apart_there keys n i (here (ascends (key_of n)))

greater_from_le : (o : Ordering) → is_le o ≡ false → o ≡ Greater
greater_from_le Less e = cc
greater_from_le Equal e = cc
greater_from_le Greater e = refl

le_parts : (o p : Ordering) → is_some_and is_le (partial_ordering_then (Some o) (Some p)) ≡ is_le (ordering_then o p)
le_parts Less p = refl
le_parts Equal p = refl
le_parts Greater p = refl

-- what `<=` says where it doesn't hold
pub below_from_le : (a b : CellName) → is_some_and is_le (partial_ordering_then (Some (nat_cmp a.file b.file)) (Some (nat_cmp a.index b.index))) ≡ false → name_cmp b a ≡ Less
below_from_le a b e = flipped (key_of a) (key_of b) (greater_from_le (name_cmp a b) (sym (le_parts (nat_cmp a.file b.file) (nat_cmp a.index b.index)) ∙ e))

-- ---- the keys of puts

pub covers_none : Covers [] []
covers_none n = ((λ _. All-nil (λ (q : Put). same_cell q.name n ≡ false)), (λ _. All-nil (λ (k : ℕ × ℕ). is_key k n ≡ false)))

pub covers_insert : (keys : List (ℕ × ℕ)) (front : List Put) (p : Put) (i : ℕ) → Covers keys front → Covers (insert keys i (key_of p.name)) (front ++ p ∷ [])
covers_insert keys front p i covers n =
    let P : ℕ × ℕ → Type 0 = λ k. is_key k n ≡ false in
    let Q : Put → Type 0 = λ q. same_cell q.name n ≡ false in
    let k : ℕ × ℕ = key_of p.name in (
      (λ apart.
          let right : All P (k ∷ drop i keys) = all_right P (take i keys) (k ∷ drop i keys) apart in
          let both : All P (take i keys ++ drop i keys) = All-append P (take i keys) (drop i keys) (all_left P (take i keys) (k ∷ drop i keys) apart) (All-tail P k (drop i keys) right) in
          All-push Q front p ((covers n).0 (subst (All P) (take-append-drop i keys) both)) (All-head P k (drop i keys) right)),
      (λ new.
          let all : All P keys = (covers n).1 (all_left Q front (p ∷ []) new) in
          All-append P (take i keys) (k ∷ drop i keys) (All-take P i keys all)
          (All-cons P k (drop i keys) (All-head Q p [] (all_right Q front (p ∷ []) new)) (All-drop P i keys all))),
    )
