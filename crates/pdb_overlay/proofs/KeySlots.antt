-- What a change at one key leaves at any key, where keys are vectors.
use Rattle.std.proofs.Common.{◌≡◌, ℕ, ◌==◌, Bool, true, false, cond, if◌then◌else◌, List, Option, Some, None, IsSome, is_some, refl, sym, ap, subst, ◌∙◌, arith, rules}
use Rattle.std.specs.BTreeMap.{UpdatesBy}
use Rattle.std.specs.Cmp.{eq_by_cmp_equiv}
use Rattle.std.specs.Cmp.Lexicographic.{nat_list_cmp_total, nat_list_eq_equiv, slice_cmp}
use Rattle.std.specs.Map.{AreApart, IsKeyTest, KeepsOthers, lookup}
use Rattle.std.specs.Ordering.{is_eq, nat_cmp}
use Rattle.std.specs.Str.{bytes_eq}
use Rattle.std.proofs.lemmas.Map.Text.{is_eq-slice_cmp}
use Rattle.std.proofs.lemmas.Slice.Eq.{bytes_eq-Decides}
use Rattle.pdb_overlay.specs.inner.Slots.{ChangesKey, HasSlot, HoldsSame, KeepsSlots, Slots, place_under, place_in_slot, slot_of, without}
use Rattle.pdb_overlay.specs.declared.place.Place.{Place}

abbrev pub UpdatesAt : Slots → List ℕ → Slots → Option (Option Place) → Type 0
UpdatesAt a bs b w = UpdatesBy (λ x y. slice_cmp nat_cmp x.items y.items) (λ k. slice_cmp nat_cmp bs k.items) a b w

apart : (bs cs ks : List ℕ) → bytes_eq bs cs ≡ false → is_eq (slice_cmp nat_cmp bs ks) ≡ true → is_eq (slice_cmp nat_cmp cs ks) ≡ false
apart bs cs ks n y =
    is_eq-slice_cmp cs ks ∙ nat_list_eq_equiv.symm cs ks ∙ sym (nat_list_eq_equiv.congr bs ks cs (sym (is_eq-slice_cmp bs ks) ∙ y)) ∙ n

others : {K X : Type 0} (eq : K → K → Bool) (test : K → Bool) (old new : List (K × X)) → KeepsOthers eq test old new
    → (other : K → Bool) → IsKeyTest eq other → AreApart test other → lookup other new ≡ lookup other old
unfolding KeepsOthers
others eq test old new h = h

by_test : (a b : Slots) (bs cs : List ℕ) (w : Option (Option Place)) (t : Bool) → bytes_eq bs cs ≡ t → UpdatesAt a bs b w
    → slot_of b cs ≡ cond t w (slot_of a cs)
by_test a b bs cs w true e h = subst (λ l. slot_of b l ≡ w) ((bytes_eq-Decides bs cs).0 e) h.1
by_test a b bs cs w false e h =
    others _ _ _ _ h.3 _ (λ x y. (eq_by_cmp_equiv nat_list_cmp_total).congr cs x.items y.items) (λ k. apart bs cs k.items e)

-- the slot of any key after a change at one
pub slot_after : (a b : Slots) (bs : List ℕ) (w : Option (Option Place)) → UpdatesAt a bs b w
    → (cs : List ℕ) → slot_of b cs ≡ cond (bytes_eq bs cs) w (slot_of a cs)
slot_after a b bs w h cs = by_test a b bs cs w (bytes_eq bs cs) refl h

held_cond : (t : Bool) (w o : Option (Option Place)) (f : Option Place → Option Place) → (t ≡ true → place_in_slot w ≡ f (place_in_slot o))
    → place_in_slot (cond t w o) ≡ cond t (f (place_in_slot o)) (place_in_slot o)
held_cond true w o f same = same refl
held_cond false w o f same = refl

-- what is held under any key after a change at one
pub held_after : (a b : Slots) (bs : List ℕ) (w : Option (Option Place)) (f : Option Place → Option Place) → UpdatesAt a bs b w
    → place_in_slot w ≡ f (place_under a bs) → ChangesKey f a bs b
held_after a b bs w f h same q =
    ap place_in_slot (slot_after a b bs w h q)
    ∙ held_cond (bytes_eq bs q) w (slot_of a q) f
    (λ e. same ∙ ap (λ l. f (place_under a l)) ((bytes_eq-Decides bs q).0 e))

same_cond : (t : Bool) (w o : Option (Option Place)) → (t ≡ true → place_in_slot w ≡ place_in_slot o) → place_in_slot (cond t w o) ≡ place_in_slot o
same_cond true w o same = same refl
same_cond false w o same = refl

-- a change at a key that leaves what is held there leaves what is held
pub same_after : (a b : Slots) (bs : List ℕ) (w : Option (Option Place)) → UpdatesAt a bs b w → place_in_slot w ≡ place_under a bs → HoldsSame a b
same_after a b bs w h same q =
    ap place_in_slot (slot_after a b bs w h q)
    ∙ same_cond (bytes_eq bs q) w (slot_of a q) (λ e. same ∙ ap (place_under a) ((bytes_eq-Decides bs q).0 e))

some_cond : (t : Bool) (p : Option Place) (o : Option (Option Place)) → IsSome o → IsSome (cond t (Some p) o)
some_cond true p o some = search rules
some_cond false p o some = some

-- a key gets a slot, and each other keeps its own
pub slots_after : (a b : Slots) (bs : List ℕ) (p : Option Place) → UpdatesAt a bs b (Some p) → KeepsSlots a b
slots_after a b bs p h q some = subst IsSome (sym (slot_after a b bs (Some p) h q)) (some_cond (bytes_eq bs q) p (slot_of a q) some)

pub slot_there : (a b : Slots) (bs : List ℕ) (p : Option Place) → UpdatesAt a bs b (Some p) → HasSlot b bs
slot_there a b bs p h = subst IsSome (sym h.1) (search rules)

-- nothing changes where what is to be made of the place is the place
pub unchanged : (a : Slots) (bs : List ℕ) (f : Option Place → Option Place) → f (place_under a bs) ≡ place_under a bs → ChangesKey f a bs a
unchanged a bs f same q = stays (bytes_eq bs q) (λ e. ap (λ l. f (place_under a l)) (sym ((bytes_eq-Decides bs q).0 e)) ∙ same ∙ ap (place_under a) ((bytes_eq-Decides bs q).0 e))
  where
    stays : (t : Bool) → (t ≡ true → f (place_under a q) ≡ place_under a q) → place_under a q ≡ cond t (f (place_under a q)) (place_under a q)
    stays true same = sym (same refl)
    stays false same = refl

-- ---- the four changes

none_held : (o : Option (Option Place)) → is_some o ≡ false → None ≡ place_in_slot o
none_held None e = refl
none_held (Some p) e = cc

pub made_same : (a b : Slots) (bs key : List ℕ) → bs ≡ key → is_some (slot_of a key) ≡ false → UpdatesAt a bs b (Some None) → HoldsSame a b
made_same a b bs key e none h = same_after a b bs (Some None) h (none_held (slot_of a bs) (ap (λ l. is_some (slot_of a l)) e ∙ none))

taken_by : (number : ℕ) (p : Place) (o : Option (Option Place)) → o ≡ Some (Some p) → p.number ≡ number → None ≡ without number (place_in_slot o)
taken_by number p o there here = subst (λ (o : Option (Option Place)). None ≡ without number (place_in_slot o)) (sym there) (gone (p.number == number) (same_test here))
  where
    same_test : p.number ≡ number → (p.number == number) ≡ true
    same_test e = grind (arith, e)

    gone : (t : Bool) → t ≡ true → None ≡ (if t then None else Some p)
    gone true e = refl
    gone false e = cc

pub released : (a b : Slots) (key : List ℕ) (number : ℕ) (p : Place) → slot_of a key ≡ Some (Some p) → p.number ≡ number → UpdatesAt a key b None
    → ChangesKey (without number) a key b
released a b key number p there here h = held_after a b key None (without number) h (taken_by number p (slot_of a key) there here)

pub tidied : (a b : Slots) (key : List ℕ) → slot_of a key ≡ Some None → UpdatesAt a key b None → HoldsSame a b
tidied a b key there h = same_after a b key None h (sym (ap place_in_slot there))
