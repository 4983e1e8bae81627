use Rattle.pdb_pipe.proofs.LookFaults.{got_bytes, got_nothing, names_damage, no_damage}
use Rattle.pdb_pipe.proofs.looking.value_under.Goals as goal

pub returns-in-Ok-true-clause-found : goal.returns-in-Ok-true-clause-found
returns-in-Ok-true-clause-found g c cells base content seen holds =
    rw c.from_vec.ensures (got_bytes (content c.args.key.now) _ _ c.in-Ok-true.field-0 c.in-Ok-true.field-0-test (c.in-Ok-true.ensures.got cells base content seen holds))

pub returns-in-Ok-false-clause-found : goal.returns-in-Ok-false-clause-found
returns-in-Ok-false-clause-found g c cells base content seen holds =
    got_nothing (content c.args.key.now) _ _ c.in-Ok-false.field-0 c.in-Ok-false.field-0-test (c.in-Ok-false.ensures.got cells base content seen holds)

pub returns-in-Err-clause-sound : goal.returns-in-Err-clause-sound
returns-in-Err-clause-sound g c cells base content seen holds = rw c.of_look_up.ensures (no_damage c.in-Err.fault (c.in-Err.ensures.sound cells base content seen holds))

pub returns-in-Err-clause-cause : goal.returns-in-Err-clause-cause
returns-in-Err-clause-cause g c = rw c.of_look_up.ensures (names_damage (g.C.Cells.seen c.args.cells.now) c.args.column c.in-Err.fault c.in-Err.ensures.faults)
