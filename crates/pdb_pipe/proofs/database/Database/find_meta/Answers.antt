use Rattle.std.proofs.Common.{◌≡◌, ℕ, List, None, Ok, refl, subst, arith}
use Rattle.std.specs.Prelude.{IfOk}
use Rattle.std.specs.Option.{option_map}
use Rattle.sdb_base.specs.Content.{Counted}
use Rattle.pdb_pipe.specs.Commits.{contents_of}
use Rattle.pdb_pipe.proofs.LookStands.{are_seen, damage_of, meta_of}
use Rattle.pdb_pipe.proofs.database.Database.find_meta.Goals as goal

pub returns-in-Bytes-clause-answer : goal.returns-in-Bytes-clause-answer
returns-in-Bytes-clause-answer g c commits s apart =
    meta_of g.D.Disk.tells g.D.Disk.clock g.D.Disk.past c.args.self.now c.plain_keys_stand_as_their_hashes.ensures c.copied.result c.args.key.now _ c.in-Bytes.ensures commits s c.copied.ensures.ok apart

pub returns-in-Erased-clause-answer : goal.returns-in-Erased-clause-answer
returns-in-Erased-clause-answer g c commits s apart =
    meta_of g.D.Disk.tells g.D.Disk.clock g.D.Disk.past c.args.self.now c.plain_keys_stand_as_their_hashes.ensures (Ok None) c.args.key.now _ c.in-Erased.ensures commits s refl apart

pub returns-in-Silent-clause-answer : goal.returns-in-Silent-clause-answer
returns-in-Silent-clause-answer g c commits s apart =
    let seen = are_seen g.D.Disk.tells g.D.Disk.clock g.D.Disk.past c.args.self.now 1 (omega arith) commits s in
    meta_of g.D.Disk.tells g.D.Disk.clock g.D.Disk.past c.args.self.now c.plain_keys_stand_as_their_hashes.ensures c.value_under.result c.args.key.now _ c.in-Silent.ensures commits s
    (subst (λ (h : List ℕ). IfOk c.value_under.result (λ o. o ≡ option_map (λ (x : Counted). x.bytes) (contents_of s.logged 1 h))) c.hash256.ensures
    (c.value_under.ensures.found seen.cells seen.base (contents_of s.logged 1) seen.seen_as seen.holds)) apart

pub returns-in-Silent-clause-damage : goal.returns-in-Silent-clause-damage
returns-in-Silent-clause-damage g c =
    damage_of g.D.Disk.tells g.D.Disk.clock g.D.Disk.past c.args.self.now c.value_under.result 1 (omega arith) c.value_under.ensures.cause
    (λ content seen. c.value_under.ensures.sound seen.cells seen.base content seen.seen_as seen.holds)
