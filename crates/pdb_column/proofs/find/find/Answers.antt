use Rattle.std.proofs.Common.{◌≡◌, ◌≢◌, ℕ, get_or, sym, ap, subst, ◌∙◌, arith, inl, inr}
use Rattle.std.proofs.lemmas.Bool.{cases_lt}
use Rattle.std.proofs.lemmas.Option.{get_or_from_slice_get, slice_get-get_or, slice_get_within}
use Rattle.std.proofs.lemmas.Result.{err_from_is_err_and}
use Rattle.std.specs.Prelude.{List}
use Rattle.pdb_column.specs.inner.Changes.{IsHit, IsOfKey}
use Rattle.pdb_column.proofs.Hits.{found_here, none_from}
use Rattle.pdb_column.proofs.KeyChunks.{IsIn, in_picture, names, no_value}
use Rattle.pdb_column.proofs.Read.{not_of_key}
use Rattle.pdb_column.proofs.find.find.Goals as goal

pub loop-place-preserved : goal.loop-place-preserved
loop-place-preserved g c = record {
  same = g.met.C.Cells.on _ _ _ c.loop-place.invariant.same c.is_of_key.ensures.keeps;
  counted = c.in_ok-found.ensures.counted ∙ c.loop-place.invariant.counted;
  stays = λ cells seen. c.is_of_key.ensures.stays cells (c.loop-place.invariant.stays cells seen);
  none = λ cells i e h seen low at some named carries.
      elim (cases_lt i c.loop-place.place) [
        | inl before ↦ c.loop-place.invariant.none cells i e h seen before at some named carries
        | inr here ↦
            let same : i ≡ c.loop-place.place = omega arith in
            let is : e ≡ get_or c.as_slice-entries.result.now c.loop-place.place 0 = sym (get_or_from_slice_get c.as_slice-entries.result.now i e 0 at) ∙ ap (λ k. get_or c.as_slice-entries.result.now k 0) same in
            not_of_key cells c.args.column c.args.chunk.now.base (get_or c.as_slice-entries.result.now c.loop-place.place 0) e h c.args.key.now c.in_ok-found.found is c.if-found.false
            (c.in_ok-found.ensures.held cells h (c.loop-place.invariant.stays cells seen)) some named carries
      ];
}

pub returns-in_err-found-clause-sound : goal.returns-in_err-found-clause-sound
returns-in_err-found-clause-sound g c cells base content seen holds chunk =
    let xs : List ℕ = c.as_slice-entries.result.now in
    let is : IsIn holds.picture c.args.key.now c.args.chunk.now.base xs = subst (IsIn holds.picture c.args.key.now c.args.chunk.now.base) (sym c.as_slice-entries.ensures.value)
    (in_picture cells c.args.column base c.args.chunk.now.base content c.args.key.now c.args.chunk.now.entries.items holds chunk) in
    let p = err_from_is_err_and c.from_residual.result c.from_residual.ensures.1 in
    rw (p.1, p.2) (c.in_err-found.ensures.sound cells (c.loop-place.invariant.stays cells seen)
    (λ some. let n = names cells c.args.column base c.args.chunk.now.base c.loop-place.place (get_or xs c.loop-place.place 0) content c.args.key.now xs holds is
    (slice_get-get_or xs c.loop-place.place 0 (omega arith)) some in (n.h, n.named)))

pub returns-then-found-clause-hit : goal.returns-then-found-clause-hit
returns-then-found-clause-hit g c =
    let xs : List ℕ = c.as_slice-entries.result.now in
    subst (λ ys. IsHit ys c.loop-place.place c.address-at.result.tier c.address-at.result.slot) c.as_slice-entries.ensures.value (record {
      entry = get_or xs c.loop-place.place 0;
      there = slice_get-get_or xs c.loop-place.place 0 (omega arith);
      not_empty = λ zero. let left = c.in_ok-found.ensures.empty zero in let there = c.if-found.true in cc;
      tier_is = c.address-at.ensures.tier;
      slot_is = c.address-at.ensures.slot;
    })

pub returns-then-found-clause-found : goal.returns-then-found-clause-found
returns-then-found-clause-found g c cells base content seen holds chunk =
    let xs : List ℕ = c.as_slice-entries.result.now in
    let at : ℕ = get_or xs c.loop-place.place 0 in
    let is : IsIn holds.picture c.args.key.now c.args.chunk.now.base xs = subst (IsIn holds.picture c.args.key.now c.args.chunk.now.base) (sym c.as_slice-entries.ensures.value)
    (in_picture cells c.args.column base c.args.chunk.now.base content c.args.key.now c.args.chunk.now.entries.items holds chunk) in
    let some : at ≢ 0 = λ zero. let left = c.in_ok-found.ensures.empty zero in let there = c.if-found.true in cc in
    let there = slice_get-get_or xs c.loop-place.place 0 (omega arith) in
    let n = names cells c.args.column base c.args.chunk.now.base c.loop-place.place at content c.args.key.now xs holds is there some in
    let key = subst (λ b. IsOfKey c.args.chunk.now.base at n.h c.args.key.now b) c.if-found.true (c.in_ok-found.ensures.held cells n.h (c.loop-place.invariant.stays cells seen) some n.named) in
    found_here cells c.args.column base c.args.chunk.now.base c.loop-place.place at content c.args.key.now xs c.address-at.result.tier c.address-at.result.slot n.h holds is there some n.holds key c.address-at.ensures.tier c.address-at.ensures.slot

pub returns-clause-found : goal.returns-clause-found
returns-clause-found g c cells base content seen holds chunk =
    let xs : List ℕ = c.as_slice-entries.result.now in
    let is : IsIn holds.picture c.args.key.now c.args.chunk.now.base xs = subst (IsIn holds.picture c.args.key.now c.args.chunk.now.base) (sym c.as_slice-entries.ensures.value)
    (in_picture cells c.args.column base c.args.chunk.now.base content c.args.key.now c.args.chunk.now.entries.items holds chunk) in
    none_from (content c.args.key.now) (λ h there. no_value cells c.args.column base c.args.chunk.now.base content c.args.key.now xs h holds is (omega arith)
    (λ i e h at some named carries. let low = slice_get_within xs i e at in c.loop-place.invariant.none cells i e h seen (omega arith) at some named carries) there)
