use Rattle.std.proofs.Common.{◌≡◌, Some, inl, length, refl, arith}
use Rattle.std.specs.Prelude.{slice_get}
use Rattle.std.specs.HashMap.{get}
use Rattle.std.proofs.lemmas.Option.{slice_get_read, slice_get_within}
use Rattle.pdb_cells.specs.Puts.{same_cell}
use Rattle.pdb_redo.proofs.BacklogSteps.{drop_one, drops_joined}
use Rattle.pdb_redo.proofs.places.drop_places.Goals as goal

pub loop-put-init : goal.loop-put-init
loop-put-init c = record { drops = λ q. inl refl; gone = λ i p low e is. omega (arith, low) }

pub loop-put-preserved : goal.loop-put-preserved
loop-put-preserved c =
    let put = c.put-item.result in
    let here : slice_get c.args.puts.now c.loop-put.put-index ≡ Some put =
    slice_get_read c.args.puts.now (length c.args.puts.now) c.loop-put.put-index put refl c.loop-put-test.true c.put-item.is in
    record {
      drops = λ q. drops_joined c.args.number (get same_cell c.args.places.now q) (get same_cell c.loop-put.places q) (get same_cell c.drop_place.new.places q)
          (c.loop-put.invariant.drops q) (c.drop_place.ensures.drops q);
      gone = drop_one c.args.puts.now c.args.number c.loop-put.put-index put c.loop-put.places c.drop_place.new.places
          c.loop-put.invariant.gone c.drop_place.ensures.drops here c.drop_place.ensures.gone;
    }

pub returns-clause-drops : goal.returns-clause-drops
returns-clause-drops c = c.loop-put.invariant.drops

pub returns-clause-gone : goal.returns-clause-gone
returns-clause-gone c =
    λ i p e. c.loop-put.invariant.gone i p (let low = slice_get_within c.args.puts.now i p e in let end = c.loop-put-test.false in omega (arith, low, end)) e
