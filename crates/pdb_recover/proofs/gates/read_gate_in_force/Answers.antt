use Rattle.std.proofs.Common.{Some, None, subst, sym, arith}
use Rattle.pdb_disk.specs.Files.{Files}
use Rattle.pdb_model.specs.Logs.{IsGate}
use Rattle.pdb_recover.proofs.ReadBytes.{same_files}
use Rattle.pdb_recover.proofs.ReadGates.{Slot, even_in_force, odd_alone, odd_in_force}
use Rattle.pdb_recover.proofs.gates.read_gate_in_force.Goals as goal

pub returns-then-odd-even-clause-gate : goal.returns-then-odd-even-clause-gate
returns-then-odd-even-clause-gate g c told =
    let o = c.in_ok-even.ensures.only_reads in
    let same = same_files g.D.Disk.clock g.D.Disk.past c.args.disk.now c.read_slot.new.disk o.time o.unchanged in
    let fs = g.D.Disk.past c.args.disk.now (g.D.Disk.clock c.args.disk.now) in
    let even = subst (Slot (fs 0).read 0) c.in-Some-Some.is-0 (c.in_ok-even.ensures.slot told) in
    let odd = subst (Slot (fs 0).read 1) c.in-Some-Some.is-1 (subst (λ (x : Files). Slot (x 0).read 1 c.in_ok-odd.odd) same (c.in_ok-odd.ensures.slot (o.told told))) in
    odd_in_force (fs 0).read c.in-Some-Some.odd (Some c.in-Some-Some.even) odd even (let l = c.if-odd-even.true in omega (arith, l))

pub returns-else-odd-even-clause-gate : goal.returns-else-odd-even-clause-gate
returns-else-odd-even-clause-gate g c told =
    let o = c.in_ok-even.ensures.only_reads in
    let same = same_files g.D.Disk.clock g.D.Disk.past c.args.disk.now c.read_slot.new.disk o.time o.unchanged in
    let fs = g.D.Disk.past c.args.disk.now (g.D.Disk.clock c.args.disk.now) in
    let even = subst (Slot (fs 0).read 0) c.in-Some-Some.is-0 (c.in_ok-even.ensures.slot told) in
    let odd = subst (Slot (fs 0).read 1) c.in-Some-Some.is-1 (subst (λ (x : Files). Slot (x 0).read 1 c.in_ok-odd.odd) same (c.in_ok-odd.ensures.slot (o.told told))) in
    even_in_force (fs 0).read c.in-Some-Some.even (Some c.in-Some-Some.odd) even odd c.if-odd-even.false

pub returns-in-Some-None-clause-gate : goal.returns-in-Some-None-clause-gate
returns-in-Some-None-clause-gate g c told =
    let o = c.in_ok-even.ensures.only_reads in
    let same = same_files g.D.Disk.clock g.D.Disk.past c.args.disk.now c.read_slot.new.disk o.time o.unchanged in
    let fs = g.D.Disk.past c.args.disk.now (g.D.Disk.clock c.args.disk.now) in
    let even = subst (Slot (fs 0).read 0) c.in-Some-None.is-0 (c.in_ok-even.ensures.slot told) in
    let odd = subst (Slot (fs 0).read 1) c.in-Some-None.is-1 (subst (λ (x : Files). Slot (x 0).read 1 c.in_ok-odd.odd) same (c.in_ok-odd.ensures.slot (o.told told))) in
    subst (IsGate (fs 0).read) (sym c.in-Some-None.even-is) (even_in_force (fs 0).read c.in-Some-None.even None even odd tt)

pub returns-in-None-default-clause-gate : goal.returns-in-None-default-clause-gate
returns-in-None-default-clause-gate g c told =
    let o = c.in_ok-even.ensures.only_reads in
    let same = same_files g.D.Disk.clock g.D.Disk.past c.args.disk.now c.read_slot.new.disk o.time o.unchanged in
    let fs = g.D.Disk.past c.args.disk.now (g.D.Disk.clock c.args.disk.now) in
    let none = subst (Slot (fs 0).read 0) c.in-None-default.is-0 (c.in_ok-even.ensures.slot told) in
    odd_alone (fs 0).read c.in_ok-odd.odd none (subst (λ (x : Files). Slot (x 0).read 1 c.in_ok-odd.odd) same (c.in_ok-odd.ensures.slot (o.told told)))
