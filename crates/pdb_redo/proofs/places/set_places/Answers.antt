use Rattle.std.proofs.Common.{◌≡◌, Some, inr, length, refl, arith}
use Rattle.std.specs.Prelude.{slice_get}
use Rattle.std.specs.HashMap.{Updates}
use Rattle.std.proofs.lemmas.Option.{slice_get_read}
use Rattle.pdb_cells.specs.Puts.{same_cell}
use Rattle.pdb_redo.proofs.BacklogSteps.{all_set, inserted, set_one}
use Rattle.pdb_redo.proofs.places.set_places.Goals as goal

pub loop-at-init : goal.loop-at-init
loop-at-init c = record { set = λ name. inr ((λ i p low e named. omega (arith, low)), refl); room = let room = c.requires in omega (arith, room) }

pub loop-at-preserved : goal.loop-at-preserved
loop-at-preserved c =
    let put = c.index-puts-at.result in
    let here : slice_get c.args.puts.now c.loop-at.at ≡ Some put =
    slice_get_read c.args.puts.now (length c.args.puts.now) c.loop-at.at put refl c.loop-at-test.true c.index-puts-at.is in
    let room = c.loop-at.invariant.room in
    let low = c.loop-at-test.true in
    let used = c.insert.ensures.spare in
    record {
      set = set_one c.args.puts.now c.args.number c.loop-at.at put c.args.places.now c.loop-at.places c.insert.new.self c.loop-at.invariant.set here
          (inserted c.insert.result
          (Updates same_cell c.loop-at.places c.insert.new.self put.name (Some (record { number = c.args.number; at = c.loop-at.at })))
          c.insert.ensures.updates
          (c.insert.ensures.succeeds (omega (arith, room, low))));
      room = omega (arith, room, used);
    }

pub returns : goal.returns
returns c = all_set c.args.puts.now c.args.number c.loop-at.at c.args.places.now c.loop-at.places c.loop-at-test.false c.loop-at.invariant.set
