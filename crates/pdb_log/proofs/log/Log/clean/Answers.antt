use Rattle.std.proofs.Common.{◌∙◌, ◌+◌, subst, arith}
use Rattle.pdb_disk.proofs.Calls.{joined}
use Rattle.pdb_log.specs.Ledger.{Ledger, cleared, passed}
use Rattle.pdb_log.specs.Standing.{IsLog, next_gate}
use Rattle.pdb_log.proofs.Cleared.{files_cleared_as}
use Rattle.pdb_log.proofs.Times.{time_then}
use Rattle.pdb_log.specs.Tallies.{with_gate}
use Rattle.pdb_log.proofs.Tallies.{tally_rises}
use Rattle.pdb_log.proofs.log.Log.clean.Goals as goal

pub returns-in_err-clear_passed-clause-any_moment : goal.returns-in_err-clear_passed-clause-any_moment
returns-in_err-clear_passed-clause-any_moment g c l rows f dropped flushed is next =
    let l0 : Ledger = passed l (next_gate c.args.self.now c.args.number c.args.commits) flushed in
    let is0 = c.in_ok-write_gate.ensures.gate_passed l rows f dropped flushed is next in
    let m0 = c.write_gate.ensures.any_moment l rows f dropped flushed is next in
    joined _ _ _ _ _ _ _ m0 (c.clear_passed.ensures.any_moment l0 rows f is0)

pub returns-in_err-clear_passed-2-clause-any_moment : goal.returns-in_err-clear_passed-2-clause-any_moment
returns-in_err-clear_passed-2-clause-any_moment g c l rows f dropped flushed is next =
    let l0 : Ledger = passed l (next_gate c.args.self.now c.args.number c.args.commits) flushed in
    let is0 = c.in_ok-write_gate.ensures.gate_passed l rows f dropped flushed is next in
    let m0 = c.write_gate.ensures.any_moment l rows f dropped flushed is next in
    let m1 = joined _ _ _ _ _ _ _ m0 (c.clear_passed.ensures.any_moment l0 rows f is0) in
    let is1 = c.in_ok-clear_passed.ensures.file_cleared l0 rows f is0 in
    joined _ _ _ _ _ _ _ m1 (c.clear_passed-2.ensures.any_moment (cleared l0 1 (c.write_gate.new.self.number + 1)) rows f is1)

pub returns-in_err-clear_passed-3-clause-any_moment : goal.returns-in_err-clear_passed-3-clause-any_moment
returns-in_err-clear_passed-3-clause-any_moment g c l rows f dropped flushed is next =
    let l0 : Ledger = passed l (next_gate c.args.self.now c.args.number c.args.commits) flushed in
    let is0 = c.in_ok-write_gate.ensures.gate_passed l rows f dropped flushed is next in
    let m0 = c.write_gate.ensures.any_moment l rows f dropped flushed is next in
    let m1 = joined _ _ _ _ _ _ _ m0 (c.clear_passed.ensures.any_moment l0 rows f is0) in
    let is1 = c.in_ok-clear_passed.ensures.file_cleared l0 rows f is0 in
    let m2 = joined _ _ _ _ _ _ _ m1 (c.clear_passed-2.ensures.any_moment (cleared l0 1 (c.write_gate.new.self.number + 1)) rows f is1) in
    let is2 = c.in_ok-clear_passed-2.ensures.file_cleared (cleared l0 1 (c.write_gate.new.self.number + 1)) rows f is1 in
    joined _ _ _ _ _ _ _ m2 (c.clear_passed-3.ensures.any_moment (cleared (cleared l0 1 (c.write_gate.new.self.number + 1)) 2 (c.clear_passed.new.self.number + 1)) rows f is2)

pub returns-in_err-clear_passed-4-clause-any_moment : goal.returns-in_err-clear_passed-4-clause-any_moment
returns-in_err-clear_passed-4-clause-any_moment g c l rows f dropped flushed is next =
    let l0 : Ledger = passed l (next_gate c.args.self.now c.args.number c.args.commits) flushed in
    let is0 = c.in_ok-write_gate.ensures.gate_passed l rows f dropped flushed is next in
    let m0 = c.write_gate.ensures.any_moment l rows f dropped flushed is next in
    let m1 = joined _ _ _ _ _ _ _ m0 (c.clear_passed.ensures.any_moment l0 rows f is0) in
    let is1 = c.in_ok-clear_passed.ensures.file_cleared l0 rows f is0 in
    let m2 = joined _ _ _ _ _ _ _ m1 (c.clear_passed-2.ensures.any_moment (cleared l0 1 (c.write_gate.new.self.number + 1)) rows f is1) in
    let is2 = c.in_ok-clear_passed-2.ensures.file_cleared (cleared l0 1 (c.write_gate.new.self.number + 1)) rows f is1 in
    let m3 = joined _ _ _ _ _ _ _ m2 (c.clear_passed-3.ensures.any_moment (cleared (cleared l0 1 (c.write_gate.new.self.number + 1)) 2 (c.clear_passed.new.self.number + 1)) rows f is2) in
    let is3 = c.in_ok-clear_passed-3.ensures.file_cleared (cleared (cleared l0 1 (c.write_gate.new.self.number + 1)) 2 (c.clear_passed.new.self.number + 1)) rows f is2 in
    joined _ _ _ _ _ _ _ m3 (c.clear_passed-4.ensures.any_moment (cleared (cleared (cleared l0 1 (c.write_gate.new.self.number + 1)) 2 (c.clear_passed.new.self.number + 1)) 3 (c.clear_passed-2.new.self.number + 1)) rows f is3)

pub returns-clause-any_moment : goal.returns-clause-any_moment
returns-clause-any_moment g c l rows f dropped flushed is next =
    let l0 : Ledger = passed l (next_gate c.args.self.now c.args.number c.args.commits) flushed in
    let is0 = c.in_ok-write_gate.ensures.gate_passed l rows f dropped flushed is next in
    let m0 = c.write_gate.ensures.any_moment l rows f dropped flushed is next in
    let m1 = joined _ _ _ _ _ _ _ m0 (c.clear_passed.ensures.any_moment l0 rows f is0) in
    let is1 = c.in_ok-clear_passed.ensures.file_cleared l0 rows f is0 in
    let m2 = joined _ _ _ _ _ _ _ m1 (c.clear_passed-2.ensures.any_moment (cleared l0 1 (c.write_gate.new.self.number + 1)) rows f is1) in
    let is2 = c.in_ok-clear_passed-2.ensures.file_cleared (cleared l0 1 (c.write_gate.new.self.number + 1)) rows f is1 in
    let m3 = joined _ _ _ _ _ _ _ m2 (c.clear_passed-3.ensures.any_moment (cleared (cleared l0 1 (c.write_gate.new.self.number + 1)) 2 (c.clear_passed.new.self.number + 1)) rows f is2) in
    let is3 = c.in_ok-clear_passed-3.ensures.file_cleared (cleared (cleared l0 1 (c.write_gate.new.self.number + 1)) 2 (c.clear_passed.new.self.number + 1)) rows f is2 in
    joined _ _ _ _ _ _ _ m3 (c.clear_passed-4.ensures.any_moment (cleared (cleared (cleared l0 1 (c.write_gate.new.self.number + 1)) 2 (c.clear_passed.new.self.number + 1)) 3 (c.clear_passed-2.new.self.number + 1)) rows f is3)

pub returns-clause-cleaned : goal.returns-clause-cleaned
returns-clause-cleaned g c l rows f dropped flushed is next =
    let l0 : Ledger = passed l (next_gate c.args.self.now c.args.number c.args.commits) flushed in
    let is0 = c.in_ok-write_gate.ensures.gate_passed l rows f dropped flushed is next in
    let is1 = c.in_ok-clear_passed.ensures.file_cleared l0 rows f is0 in
    let is2 = c.in_ok-clear_passed-2.ensures.file_cleared (cleared l0 1 (c.write_gate.new.self.number + 1)) rows f is1 in
    let is3 = c.in_ok-clear_passed-3.ensures.file_cleared (cleared (cleared l0 1 (c.write_gate.new.self.number + 1)) 2 (c.clear_passed.new.self.number + 1)) rows f is2 in
    let is4 = c.in_ok-clear_passed-4.ensures.file_cleared (cleared (cleared (cleared l0 1 (c.write_gate.new.self.number + 1)) 2 (c.clear_passed.new.self.number + 1)) 3 (c.clear_passed-2.new.self.number + 1)) rows f is3 in
    let n0 = c.write_gate.ensures.number in
    let n1 = c.clear_passed.ensures.number ∙ n0 in
    let n2 = c.clear_passed-2.ensures.number ∙ n1 in
    let n3 = c.clear_passed-3.ensures.number ∙ n2 in
    subst (λ (k : Ledger). IsLog g.D.Disk.tells g.D.Disk.clock g.D.Disk.past c.clear_passed-4.new.self k rows f) (files_cleared_as l0 _ _ _ _ c.args.self.now.number n0 n1 n2 n3) is4

pub returns-in_err-clear_passed-clause-goes_on : goal.returns-in_err-clear_passed-clause-goes_on
returns-in_err-clear_passed-clause-goes_on g c =
    time_then g.D.Disk.clock g.D.Disk.past c.args.self.now.disk c.write_gate.new.self.disk c.clear_passed.new.self.disk c.write_gate.ensures.goes_on c.clear_passed.ensures.goes_on

pub returns-in_err-clear_passed-2-clause-goes_on : goal.returns-in_err-clear_passed-2-clause-goes_on
returns-in_err-clear_passed-2-clause-goes_on g c =
    let t1 = time_then g.D.Disk.clock g.D.Disk.past c.args.self.now.disk c.write_gate.new.self.disk c.clear_passed.new.self.disk c.write_gate.ensures.goes_on c.clear_passed.ensures.goes_on in
    time_then g.D.Disk.clock g.D.Disk.past c.args.self.now.disk c.clear_passed.new.self.disk c.clear_passed-2.new.self.disk t1 c.clear_passed-2.ensures.goes_on

pub returns-in_err-clear_passed-3-clause-goes_on : goal.returns-in_err-clear_passed-3-clause-goes_on
returns-in_err-clear_passed-3-clause-goes_on g c =
    let t1 = time_then g.D.Disk.clock g.D.Disk.past c.args.self.now.disk c.write_gate.new.self.disk c.clear_passed.new.self.disk c.write_gate.ensures.goes_on c.clear_passed.ensures.goes_on in
    let t2 = time_then g.D.Disk.clock g.D.Disk.past c.args.self.now.disk c.clear_passed.new.self.disk c.clear_passed-2.new.self.disk t1 c.clear_passed-2.ensures.goes_on in
    time_then g.D.Disk.clock g.D.Disk.past c.args.self.now.disk c.clear_passed-2.new.self.disk c.clear_passed-3.new.self.disk t2 c.clear_passed-3.ensures.goes_on

pub returns-in_err-clear_passed-4-clause-goes_on : goal.returns-in_err-clear_passed-4-clause-goes_on
returns-in_err-clear_passed-4-clause-goes_on g c =
    let t1 = time_then g.D.Disk.clock g.D.Disk.past c.args.self.now.disk c.write_gate.new.self.disk c.clear_passed.new.self.disk c.write_gate.ensures.goes_on c.clear_passed.ensures.goes_on in
    let t2 = time_then g.D.Disk.clock g.D.Disk.past c.args.self.now.disk c.clear_passed.new.self.disk c.clear_passed-2.new.self.disk t1 c.clear_passed-2.ensures.goes_on in
    let t3 = time_then g.D.Disk.clock g.D.Disk.past c.args.self.now.disk c.clear_passed-2.new.self.disk c.clear_passed-3.new.self.disk t2 c.clear_passed-3.ensures.goes_on in
    time_then g.D.Disk.clock g.D.Disk.past c.args.self.now.disk c.clear_passed-3.new.self.disk c.clear_passed-4.new.self.disk t3 c.clear_passed-4.ensures.goes_on

pub returns-clause-goes_on : goal.returns-clause-goes_on
returns-clause-goes_on g c =
    let t1 = time_then g.D.Disk.clock g.D.Disk.past c.args.self.now.disk c.write_gate.new.self.disk c.clear_passed.new.self.disk c.write_gate.ensures.goes_on c.clear_passed.ensures.goes_on in
    let t2 = time_then g.D.Disk.clock g.D.Disk.past c.args.self.now.disk c.clear_passed.new.self.disk c.clear_passed-2.new.self.disk t1 c.clear_passed-2.ensures.goes_on in
    let t3 = time_then g.D.Disk.clock g.D.Disk.past c.args.self.now.disk c.clear_passed-2.new.self.disk c.clear_passed-3.new.self.disk t2 c.clear_passed-3.ensures.goes_on in
    time_then g.D.Disk.clock g.D.Disk.past c.args.self.now.disk c.clear_passed-3.new.self.disk c.clear_passed-4.new.self.disk t3 c.clear_passed-4.ensures.goes_on

pub returns-in_err-write_gate-clause-tally : goal.returns-in_err-write_gate-clause-tally
returns-in_err-write_gate-clause-tally g c t is =
    c.write_gate.ensures.tally (with_gate t) (tally_rises c.args.self.now t is) (let most = is.gates in omega (arith, most))

pub returns-in_err-clear_passed-clause-tally : goal.returns-in_err-clear_passed-clause-tally
returns-in_err-clear_passed-clause-tally g c t is =
    let t0 = c.write_gate.ensures.tally (with_gate t) (tally_rises c.args.self.now t is) (let most = is.gates in omega (arith, most)) in
    c.clear_passed.ensures.tally (with_gate t) t0

pub returns-in_err-clear_passed-2-clause-tally : goal.returns-in_err-clear_passed-2-clause-tally
returns-in_err-clear_passed-2-clause-tally g c t is =
    let t0 = c.write_gate.ensures.tally (with_gate t) (tally_rises c.args.self.now t is) (let most = is.gates in omega (arith, most)) in
    c.clear_passed-2.ensures.tally (with_gate t) (c.clear_passed.ensures.tally (with_gate t) t0)

pub returns-in_err-clear_passed-3-clause-tally : goal.returns-in_err-clear_passed-3-clause-tally
returns-in_err-clear_passed-3-clause-tally g c t is =
    let t0 = c.write_gate.ensures.tally (with_gate t) (tally_rises c.args.self.now t is) (let most = is.gates in omega (arith, most)) in
    let t2 = c.clear_passed-2.ensures.tally (with_gate t) (c.clear_passed.ensures.tally (with_gate t) t0) in
    c.clear_passed-3.ensures.tally (with_gate t) t2

pub returns-in_err-clear_passed-4-clause-tally : goal.returns-in_err-clear_passed-4-clause-tally
returns-in_err-clear_passed-4-clause-tally g c t is =
    let t0 = c.write_gate.ensures.tally (with_gate t) (tally_rises c.args.self.now t is) (let most = is.gates in omega (arith, most)) in
    let t2 = c.clear_passed-2.ensures.tally (with_gate t) (c.clear_passed.ensures.tally (with_gate t) t0) in
    c.clear_passed-4.ensures.tally (with_gate t) (c.clear_passed-3.ensures.tally (with_gate t) t2)

pub returns-clause-tally : goal.returns-clause-tally
returns-clause-tally g c t is =
    let t0 = c.write_gate.ensures.tally (with_gate t) (tally_rises c.args.self.now t is) (let most = is.gates in omega (arith, most)) in
    let t2 = c.clear_passed-2.ensures.tally (with_gate t) (c.clear_passed.ensures.tally (with_gate t) t0) in
    c.clear_passed-4.ensures.tally (with_gate t) (c.clear_passed-3.ensures.tally (with_gate t) t2)
