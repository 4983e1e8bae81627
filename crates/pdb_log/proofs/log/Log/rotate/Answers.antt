use Rattle.std.proofs.Common.{rules, ◌≡◌, ◌≤◌, length, refl, arith}
use Rattle.std.specs.Prelude.{slice_index}
use Rattle.pdb_log.specs.Standing.{end_of_log}
use Rattle.pdb_log.proofs.Logs.{set_to}
use Rattle.pdb_log.proofs.Turns.{turned_next}
use Rattle.pdb_log.proofs.log.Log.rotate.Goals as goal

pub returns-then-self-next-eq0-clause-turned : goal.returns-then-self-next-eq0-clause-turned
returns-then-self-next-eq0-clause-turned g c l rows f is =
    let five : length c.args.self.now.last ≡ 5 = search rules in
    let ring = c.next-next.result.in_ring in
    let full : 262144 ≤ end_of_log c.args.self.now = search rules in
    let zero : slice_index c.args.self.now.ends c.next-next.result.number ≡ 0 = search rules in
    turned_next g.D.Disk.tells g.D.Disk.clock g.D.Disk.past c.args.self.now _ l rows f is refl refl c.next-next.ensures refl refl refl
    (set_to c.args.self.now.last c.next-next.result.number c.args.self.now.number (let p = ring.1 in omega (arith, five, p)))
    full zero
