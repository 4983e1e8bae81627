-- What is found by a place.
use Rattle.std.proofs.Common.{◌≡◌, ℕ, ◌-◌, ◌≤◌, ◌<◌, List, [], ◌∷◌, length, Some, None, sym, ap, subst, ◌∙◌, arith}
use Rattle.std.specs.Prelude.{get_or, slice_get}
use Rattle.std.proofs.lemmas.Option.{slice_get_read}
use Rattle.std.specs.Option.{option_or}
use Rattle.std.specs.HashMap.{HashMap, get}
use Rattle.pdb_cells.specs.Puts.{last_put, same_cell}
use Rattle.pdb_cells.specs.declared.CellName.{CellName}
use Rattle.pdb_cells.specs.declared.Put.{Put}
use Rattle.pdb_redo.specs.Places.{AreInOrder, AreInPlaces, IsNewestAt, IsPlaceOf}
use Rattle.pdb_redo.specs.declared.waiting.Place.{Place}
use Rattle.pdb_redo.specs.declared.waiting.Waiting.{Waiting}
use Rattle.pdb_redo.proofs.BacklogNewest.{put_once, waiting-append}
use Rattle.pdb_redo.proofs.BacklogOrder.{number_at, once_at, waits_at}
use Rattle.pdb_redo.proofs.BacklogPlaces.{newest_in}

-- the put at a place, of the record of its number
pub record IsPutOf (ws : List Waiting) (name : CellName) (p : Place) (first : ℕ) : Type 0 where
  pub waiting : Waiting
  pub put : Put
  pub from : first ≤ p.number
  pub record_is : slice_get ws (p.number - first) ≡ Some waiting
  pub there : slice_get waiting.puts p.at ≡ Some put
  pub bytes : newest_in ws name ≡ Some put.bytes

newest_at : (first : ℕ) (ws : List Waiting) (name : CellName) (p : Place) → AreInOrder first ws → IsNewestAt ws name p → IsPutOf ws name p first
newest_at first ws name p order at =
    let split = subst (AreInOrder first) at.parts order in
    let e = number_at first at.before at.waiting at.after split in
    let number = at.number in
    let index : p.number - first ≡ length at.before = omega (arith, e, number) in
    record {
      waiting = at.waiting;
      put = at.put;
      from = omega (arith, e, number);
      record_is = ap (slice_get ws) index ∙ ap (λ vs. slice_get vs (length at.before)) at.parts ∙ waits_at at.before at.waiting at.after;
      there = at.there;
      bytes = ap (λ vs. newest_in vs name) at.parts ∙ waiting-append at.before (at.waiting ∷ at.after) name
          ∙ ap (λ o. option_or (option_or o (last_put at.waiting.puts name)) (newest_in at.before name)) at.last
          ∙ ap (λ o. option_or o (newest_in at.before name))
          (ap (last_put at.waiting.puts) (sym at.name_is) ∙ put_once at.waiting.puts p.at at.put (once_at first at.before at.waiting at.after split) at.there);
    }

first_number : (first : ℕ) (ws : List Waiting) (w : Waiting) → AreInOrder first ws → slice_get ws 0 ≡ Some w → w.number ≡ first
first_number first [] w order e = cc
first_number first (v ∷ ws) w order e = let same : v ≡ w = cc in ap (λ (u : Waiting). u.number) (sym same) ∙ order.0

-- a cell without a place is in no record
pub unknown_none : {S : Type 0} (ws : List Waiting) (places : HashMap CellName Place S) (name : CellName) → AreInPlaces ws places → get same_cell places name ≡ None → newest_in ws name ≡ None
unknown_none ws places name are none = subst (IsPlaceOf ws name) none (are.known name)

module _ {S : Type 0} (ws : List Waiting) (places : HashMap CellName Place S) (name : CellName) (p : Place) (w : Waiting) (are : AreInPlaces ws places) (known : get same_cell places name ≡ Some p)
    (first : slice_get ws 0 ≡ Some w) where
  number_is : w.number ≡ are.first
  number_is = first_number are.first ws w are.order first

  placed : IsPlaceOf ws name (Some p)
  placed = subst (IsPlaceOf ws name) known (are.known name)

  pub found_at : IsPutOf ws name p w.number
  found_at = subst (IsPutOf ws name p) (sym number_is) (newest_at are.first ws name p are.order placed)

-- what a place says, where its record is found
pub put_found : (ws : List Waiting) (name : CellName) (p : Place) (first : ℕ) (w : Waiting) → IsPutOf ws name p first → slice_get ws (p.number - first) ≡ Some w
    → (put : Put) × (slice_get w.puts p.at ≡ Some put) × (newest_in ws name ≡ Some put.bytes)
put_found ws name p first w is e =
    let record_is = is.record_is in
    let same : is.waiting ≡ w = cc in
    (is.put, ap (λ (v : Waiting). slice_get v.puts p.at) (sym same) ∙ is.there, is.bytes)

-- the same by what a deque answers
pub put_here : {S : Type 0} (ws : List Waiting) (n : ℕ) (places : HashMap CellName Place S) (name : CellName) (p : Place) (w r : Waiting) → AreInPlaces ws places → Some p ≡ get same_cell places name → n ≡ length ws
    → 0 < n → w ≡ get_or ws 0 w → p.number - w.number < n → r ≡ get_or ws (p.number - w.number) r
    → (put : Put) × (slice_get r.puts p.at ≡ Some put) × (newest_in ws name ≡ Some put.bytes)
put_here ws n places name p w r are known long some first within here =
    put_found ws name p w.number r
    (found_at ws places name p w are (sym known) (slice_get_read ws n 0 w long some first))
    (slice_get_read ws n (p.number - w.number) r long within here)
