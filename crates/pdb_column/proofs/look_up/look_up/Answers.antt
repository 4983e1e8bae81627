use Rattle.std.proofs.Common.{◌≡◌, ◌≢◌, ◌+◌, ◌≤◌, ℕ, if◌then◌else◌, length, get_or, sym, ap, subst, ◌∙◌, arith, inl, inr}
use Rattle.std.proofs.lemmas.Bool.{cases_lt}
use Rattle.std.proofs.lemmas.Option.{get_or_from_slice_get, slice_get-get_or, slice_get_within}
use Rattle.std.proofs.lemmas.Result.{err_from_is_err_and}
use Rattle.std.specs.Prelude.{List}
use Rattle.pdb_model.specs.Tables.{slots_of}
use Rattle.pdb_column.specs.inner.KeyChunks.{IsReadAt}
use Rattle.pdb_column.proofs.KeyChunks.{IsIn, held_under, in_picture, names, no_value}
use Rattle.pdb_column.proofs.Read.{got_none, got_some, not_here}
use Rattle.pdb_column.proofs.look_up.look_up.Goals as goal

pub returns-in_err-chunk-clause-sound : goal.returns-in_err-chunk-clause-sound
returns-in_err-chunk-clause-sound g c cells base content seen holds =
    let p = err_from_is_err_and c.from_residual.result c.from_residual.ensures.1 in
    rw (p.1, p.2) (c.in_err-chunk.ensures.sound cells base content seen holds)

pub loop-entry-preserved : goal.loop-entry-preserved
loop-entry-preserved g c = record {
  same = g.met.C.Cells.on _ _ _ c.loop-entry.invariant.same c.read_at.ensures.keeps;
  counted = c.in_ok-found.ensures.counted ∙ c.loop-entry.invariant.counted;
  reads =
      let once = subst (λ b. g.C.Cells.read_count c.read_at.new.c ≤ g.C.Cells.read_count c.loop-entry.c + (if b then slots_of (length c.read_at.new.out.items) else 1)) c.if-found.false c.in_ok-found.ensures.reads in
      let so_far = c.loop-entry.invariant.reads in omega arith;
  stays = λ cells seen. c.read_at.ensures.stays cells (c.loop-entry.invariant.stays cells seen);
  left = λ cells seen. c.in_ok-found.ensures.left cells (c.loop-entry.invariant.stays cells seen) c.if-found.false ∙ c.loop-entry.invariant.left cells seen;
  none = λ cells i e h seen low at some named carries.
      elim (cases_lt i c.loop-entry.entry-index) [
        | inl before ↦ c.loop-entry.invariant.none cells i e h seen before at some named carries
        | inr here ↦
            let same : i ≡ c.loop-entry.entry-index = omega arith in
            let is : e ≡ get_or c.as_slice-entries.result.now c.loop-entry.entry-index 0 = sym (get_or_from_slice_get c.as_slice-entries.result.now i e 0 at) ∙ ap (λ k. get_or c.as_slice-entries.result.now k 0) same in
            not_here cells c.args.column c.in_ok-chunk.chunk.base (get_or c.as_slice-entries.result.now c.loop-entry.entry-index 0) e h c.args.key.now c.read_at.new.out.items c.in_ok-found.found is c.if-found.false
            (c.in_ok-found.ensures.held cells h (c.loop-entry.invariant.stays cells seen)) some named carries
      ];
}

pub returns-in_err-found-clause-sound : goal.returns-in_err-found-clause-sound
returns-in_err-found-clause-sound g c cells base content seen holds =
    let xs : List ℕ = c.as_slice-entries.result.now in
    let is : IsIn holds.picture c.args.key.now c.in_ok-chunk.chunk.base xs = subst (IsIn holds.picture c.args.key.now c.in_ok-chunk.chunk.base) (sym c.as_slice-entries.ensures.value)
    (in_picture cells c.args.column base c.in_ok-chunk.chunk.base content c.args.key.now c.in_ok-chunk.chunk.entries.items holds (c.in_ok-chunk.ensures.spelled cells seen)) in
    let p = err_from_is_err_and c.from_residual-in_err-found.result c.from_residual-in_err-found.ensures.1 in
    rw (p.1, p.2) (c.in_err-found.ensures.sound cells (c.loop-entry.invariant.stays cells (c.read_key_chunk.ensures.stays cells seen))
    (λ some. let n = names cells c.args.column base c.in_ok-chunk.chunk.base c.loop-entry.entry-index (get_or xs c.loop-entry.entry-index 0) content c.args.key.now xs holds is
    (slice_get-get_or xs c.loop-entry.entry-index 0 (omega arith)) some in (n.h, n.named)))

pub returns-then-found-clause-reads : goal.returns-then-found-clause-reads
returns-then-found-clause-reads g c =
    let last = subst (λ b. g.C.Cells.read_count c.read_at.new.c ≤ g.C.Cells.read_count c.loop-entry.c + (if b then slots_of (length c.read_at.new.out.items) else 1)) c.if-found.true c.in_ok-found.ensures.reads in
    let so_far = c.loop-entry.invariant.reads in
    let chunk = c.read_key_chunk.ensures.reads in
    let long : length c.as_slice-entries.result.now ≡ 64 = ap length c.as_slice-entries.ensures.value ∙ c.in_ok-chunk.ensures.chunk.places in omega arith

pub returns-then-found-clause-got : goal.returns-then-found-clause-got
returns-then-found-clause-got g c cells base content seen holds =
    let xs : List ℕ = c.as_slice-entries.result.now in
    let at : ℕ = get_or xs c.loop-entry.entry-index 0 in
    let is : IsIn holds.picture c.args.key.now c.in_ok-chunk.chunk.base xs = subst (IsIn holds.picture c.args.key.now c.in_ok-chunk.chunk.base) (sym c.as_slice-entries.ensures.value)
    (in_picture cells c.args.column base c.in_ok-chunk.chunk.base content c.args.key.now c.in_ok-chunk.chunk.entries.items holds (c.in_ok-chunk.ensures.spelled cells seen)) in
    let some : at ≢ 0 = λ zero. let left = c.in_ok-found.ensures.empty zero in let there = c.if-found.true in cc in
    let there = slice_get-get_or xs c.loop-entry.entry-index 0 (omega arith) in
    let n = names cells c.args.column base c.in_ok-chunk.chunk.base c.loop-entry.entry-index at content c.args.key.now xs holds is there some in
    let read = subst (λ b. IsReadAt c.in_ok-chunk.chunk.base at n.h c.args.key.now c.read_at.new.out.items b) c.if-found.true
    (c.in_ok-found.ensures.held cells n.h (c.loop-entry.invariant.stays cells (c.read_key_chunk.ensures.stays cells seen)) some n.named) in
    got_some (content c.args.key.now) (record { count = n.h.count; bytes = n.h.value }) c.args.out.now.items c.read_at.new.out.items
    (held_under cells c.args.column base c.in_ok-chunk.chunk.base c.loop-entry.entry-index at content c.args.key.now xs n.h holds is there some n.holds read.0) read.1

pub returns-clause-got : goal.returns-clause-got
returns-clause-got g c cells base content seen holds =
    let xs : List ℕ = c.as_slice-entries.result.now in
    let is : IsIn holds.picture c.args.key.now c.in_ok-chunk.chunk.base xs = subst (IsIn holds.picture c.args.key.now c.in_ok-chunk.chunk.base) (sym c.as_slice-entries.ensures.value)
    (in_picture cells c.args.column base c.in_ok-chunk.chunk.base content c.args.key.now c.in_ok-chunk.chunk.entries.items holds (c.in_ok-chunk.ensures.spelled cells seen)) in
    let now = c.read_key_chunk.ensures.stays cells seen in
    got_none (content c.args.key.now) c.args.out.now.items c.loop-entry.out.items (c.loop-entry.invariant.left cells now)
    (λ h there. no_value cells c.args.column base c.in_ok-chunk.chunk.base content c.args.key.now xs h holds is (omega arith)
    (λ i e h at some named carries. let low = slice_get_within xs i e at in c.loop-entry.invariant.none cells i e h now (omega arith) at some named carries) there)
