-- What is found where a place is kept, or none.
use Rattle.std.proofs.Common.{◌≡◌, ℕ, ◌-◌, ◌<◌, true, List, length, Some, None, sym, ap, subst, ◌∙◌}
use Rattle.std.specs.Prelude.{get_or, slice_get}
use Rattle.std.proofs.lemmas.Option.{slice_get_read}
use Rattle.sdb_base.specs.Keeping.{operations}
use Rattle.sdb_base.specs.declared.op.Op.{Op}
use Rattle.pdb_overlay.specs.Lending.{newest_said, says}
use Rattle.pdb_overlay.specs.inner.Placing.{AreFound, place_at, speaks}
use Rattle.pdb_overlay.specs.declared.place.Place.{Place}
use Rattle.pdb_overlay.specs.declared.places.Places.{Places}
use Rattle.pdb_overlay.proofs.Sayings.{FoundAt, IsNewestAt, found_at}

module _ (n column : ℕ) (key : List ℕ) (commits : List (List Op)) (places : Places) (are : AreFound n commits places) where
  pub none_found : None ≡ place_at places column key → newest_said column key (operations commits) ≡ None
  none_found e = subst (FoundAt n column key commits) (sym (e ∙ are.found column key)) (found_at n column key commits)

  pub place_found : (p : Place) → Some p ≡ place_at places column key → IsNewestAt n column key commits p
  place_found p e = subst (FoundAt n column key commits) (sym (e ∙ are.found column key)) (found_at n column key commits)

  -- the operation at the place
  pub op_found : (p : Place) (m : ℕ) (ops : List Op) → Some p ≡ place_at places column key → m ≡ length commits → p.number - n < m → ops ≡ get_or commits (p.number - n) ops
      → (op : Op) × (slice_get ops p.at ≡ Some op) × (speaks column key op ≡ true) × (newest_said column key (operations commits) ≡ says column key op)
  op_found p m ops e long within here =
      let is = place_found p e in
      let commit = is.commit in
      let read = slice_get_read commits m (p.number - n) ops long within here in
      let same : is.ops ≡ ops = cc in
      (is.op, ap (λ os. slice_get os p.at) (sym same) ∙ is.there, is.spoken, is.newest)
