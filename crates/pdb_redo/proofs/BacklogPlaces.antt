-- The places of the newest puts, before and after the steps of a backlog.
use Rattle.std.proofs.Common.{◌≡◌, ⊎_elim, ℕ, ◌+◌, ◌≤◌, List, [], ◌∷◌, ◌++◌, map, Option, Some, None, refl, sym, ap, subst, ◌∙◌, arith, append_assoc}
use Rattle.std.specs.Prelude.{slice_get}
use Rattle.std.specs.Option.{option_or}
use Rattle.std.specs.HashMap.{HashMap, get}
use Rattle.pdb_cells.specs.Puts.{NoCellTwice, last_put, same_cell}
use Rattle.pdb_cells.specs.declared.CellName.{CellName}
use Rattle.pdb_cells.specs.declared.Put.{Put}
use Rattle.pdb_redo.specs.Backlogs.{IsNextNumber}
use Rattle.pdb_redo.specs.Places.{AreInOrder, AreInPlaces, IsNewestAt, IsPlaceOf, newest, record_of}
use Rattle.pdb_redo.specs.declared.waiting.Place.{Place}
use Rattle.pdb_redo.specs.declared.waiting.Waiting.{Waiting}
use Rattle.pdb_redo.specs.inner.Placing.{IsDroppedFrom, IsInRecord, IsSetIn}
use Rattle.pdb_redo.proofs.BacklogNewest.{none_both, none_puts, waiting-append}
use Rattle.pdb_redo.proofs.BacklogOrder.{number_at, order_next}

abbrev pub newest_in : List Waiting → CellName → Option (List ℕ)
newest_in ws name = newest (map record_of ws) name

-- no records, and no places
pub none_placed : {S : Type 0} (places : HashMap CellName Place S) → ((name : CellName) → get same_cell places name ≡ None) → AreInPlaces [] places
none_placed places none = record { first = 1; from_one = omega arith; order = tt; known = λ name. subst (IsPlaceOf [] name) (sym (none name)) refl }

-- ---- more room

pub still_in_places : {S : Type 0} (ws : List Waiting) (a b : HashMap CellName Place S) → AreInPlaces ws a → ((name : CellName) → get same_cell b name ≡ get same_cell a name) → AreInPlaces ws b
still_in_places ws a b are same = record {
  first = are.first;
  from_one = are.from_one;
  order = are.order;
  known = λ name. subst (IsPlaceOf ws name) (sym (same name)) (are.known name);
}

-- ---- one more record

none_more : (ws : List Waiting) (w : Waiting) (name : CellName) → last_put w.puts name ≡ None → newest_in ws name ≡ None → newest_in (ws ++ w ∷ []) name ≡ None
none_more ws w name not none = waiting-append ws (w ∷ []) name ∙ ap (λ o. option_or o (newest_in ws name)) not ∙ none

still_placed : (ws : List Waiting) (w : Waiting) (name : CellName) (o : Option Place) → last_put w.puts name ≡ None → IsPlaceOf ws name o → IsPlaceOf (ws ++ w ∷ []) name o
still_placed ws w name None not none = none_more ws w name not none
still_placed ws w name (Some p) not at = record {
  before = at.before;
  waiting = at.waiting;
  after = at.after ++ w ∷ [];
  parts = ap (λ vs. vs ++ w ∷ []) at.parts ∙ append_assoc at.before (at.waiting ∷ at.after) (w ∷ []);
  number = at.number;
  put = at.put;
  there = at.there;
  name_is = at.name_is;
  last = none_more at.after w name not at.last;
}

pub push_placed : {S : Type 0} (ws : List Waiting) (w : Waiting) (a b : HashMap CellName Place S) → AreInPlaces ws a → 1 ≤ w.number → IsNextNumber (map record_of ws) w.number → NoCellTwice w.puts
    → ((name : CellName) → IsSetIn w.puts w.number name (get same_cell a name) (get same_cell b name)) → AreInPlaces (ws ++ w ∷ []) b
push_placed ws w a b are one next once set =
    let ordered = order_next are.first ws w are.from_one are.order one next once in
    record {
      first = ordered.first;
      from_one = ordered.from_one;
      order = ordered.order;
      known = λ name. ⊎_elim
          (λ at. subst (IsPlaceOf (ws ++ w ∷ []) name) (sym at.place_is) (record {
            before = ws;
            waiting = w;
            after = [];
            parts = refl;
            number = refl;
            put = at.put;
            there = at.there;
            name_is = at.name_is;
            last = refl;
          }))
          (λ other. subst (IsPlaceOf (ws ++ w ∷ []) name) (sym other.1) (still_placed ws w name (get same_cell a name) (none_puts w.puts name other.0) (are.known name)))
          (set name);
    }

-- ---- one record less

first_is : (w v : Waiting) (ws vs : List Waiting) → w ∷ ws ≡ v ∷ vs → (w ≡ v) × (ws ≡ vs)
first_is w v ws vs e = (cc, cc)

none_less : (w : Waiting) (ws : List Waiting) (name : CellName) → newest_in (w ∷ ws) name ≡ None → newest_in ws name ≡ None
none_less w ws name none = (none_both (newest_in ws name) (last_put w.puts name) none).0

-- a newest put is in the first record, or in a later one
later_newest : (w : Waiting) (ws before : List Waiting) (v : Waiting) (after : List Waiting) (name : CellName) (p : Place) (put : Put) → w ∷ ws ≡ before ++ v ∷ after → v.number ≡ p.number
    → slice_get v.puts p.at ≡ Some put → put.name ≡ name → newest_in after name ≡ None → (w ≡ v → ⊥) → IsNewestAt ws name p
later_newest w ws [] v after name p put parts number there named last not = absurd (not (first_is w v ws after parts).0)
later_newest w ws (b ∷ bs) v after name p put parts number there named last not = record {
  before = bs;
  waiting = v;
  after = after;
  parts = (first_is w b ws (bs ++ v ∷ after) parts).1;
  number = number;
  put = put;
  there = there;
  name_is = named;
  last = last;
}

first_newest : (first : ℕ) (w : Waiting) (ws before : List Waiting) (v : Waiting) (after : List Waiting) (name : CellName) → w ∷ ws ≡ before ++ v ∷ after → AreInOrder first (w ∷ ws) → v.number ≡ w.number
    → newest_in after name ≡ None → newest_in ws name ≡ None
first_newest first w ws [] v after name parts order same last = ap (λ vs. newest_in vs name) (first_is w v ws after parts).1 ∙ last
first_newest first w ws (b ∷ bs) v after name parts order same last =
    let e = number_at first (b ∷ bs) v after (subst (AreInOrder first) parts order) in
    let f = order.0 in
    absurd (omega (arith, e, f, same))

module _ {S : Type 0} (w : Waiting) (ws : List Waiting) (a b : HashMap CellName Place S) (are : AreInPlaces (w ∷ ws) a)
    (gone : (i : ℕ) (p : Put) → slice_get w.puts i ≡ Some p → IsInRecord (get same_cell b p.name) w.number → ⊥) where
  stays : (name : CellName) (o : Option Place) → get same_cell b name ≡ o → IsPlaceOf (w ∷ ws) name o → IsPlaceOf ws name o
  stays name None e none = none_less w ws name none
  stays name (Some p) e at = later_newest w ws at.before at.waiting at.after name p at.put at.parts at.number at.there at.name_is at.last
      (λ same. gone p.at at.put
      (ap (λ (v : Waiting). slice_get v.puts p.at) same ∙ at.there)
      (record { at = p; there = ap (get same_cell b) at.name_is ∙ e; here = sym at.number ∙ ap (λ (v : Waiting). v.number) (sym same) }))

  dropped : (name : CellName) (p : Place) → p.number ≡ w.number → IsPlaceOf (w ∷ ws) name (Some p) → newest_in ws name ≡ None
  dropped name p here at = first_newest are.first w ws at.before at.waiting at.after name at.parts are.order (at.number ∙ here) at.last

  pub pop_placed : ((name : CellName) → IsDroppedFrom w.number (get same_cell a name) (get same_cell b name)) → AreInPlaces ws b
  pop_placed drops = record {
    first = are.first + 1;
    from_one = omega arith;
    order = are.order.2;
    known = λ name. ⊎_elim
        (λ same. stays name (get same_cell b name) refl (subst (IsPlaceOf (w ∷ ws) name) (sym same) (are.known name)))
        (λ none. subst (IsPlaceOf ws name) (sym none.0) (let in_it = none.1 in dropped name in_it.at in_it.here (subst (IsPlaceOf (w ∷ ws) name) in_it.there (are.known name))))
        (drops name);
  }
