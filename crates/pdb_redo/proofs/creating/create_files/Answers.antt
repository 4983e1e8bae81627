use Rattle.std.proofs.Common.{List, ℕ, sym, subst}
use Rattle.pdb_redo.proofs.CreatMoments.{none_or_new}
use Rattle.pdb_redo.proofs.NewMoments.{as_read, emptied_yet, from_read, heads_emptied, joined_new, ungated_by}
use Rattle.pdb_redo.specs.inner.Creation.{AreHeaded, NeverHasGate}
use Rattle.pdb_redo.proofs.creating.create_files.Goals as goal

pub returns-in_err-empty_files-clause-any_moment : goal.returns-in_err-empty_files-clause-any_moment
returns-in_err-empty_files-clause-any_moment g c told never =
    let clock = g.D.Disk.clock in let past = g.D.Disk.past in
    let same = as_read clock past c.args.base c.args.disk.now c.is_occupied.new.disk c.is_occupied.ensures.time c.is_occupied.ensures.unchanged in
    from_read clock past c.args.base c.args.disk.now c.is_occupied.new.disk c.empty_files.new.disk c.is_occupied.ensures.time c.is_occupied.ensures.unchanged
    (none_or_new clock past c.args.base c.is_occupied.new.disk c.empty_files.new.disk (c.empty_files.ensures.any_moment (c.is_occupied.ensures.told told) (subst NeverHasGate (sym same) never)))

pub returns-in_err-write_heads-clause-any_moment : goal.returns-in_err-write_heads-clause-any_moment
returns-in_err-write_heads-clause-any_moment g c told never =
    let clock = g.D.Disk.clock in let past = g.D.Disk.past in
    let same = as_read clock past c.args.base c.args.disk.now c.is_occupied.new.disk c.is_occupied.ensures.time c.is_occupied.ensures.unchanged in
    let told1 = c.is_occupied.ensures.told told in
    let empty = c.in_ok-empty_files.ensures.emptied told1 in
    joined_new clock past c.args.base c.args.disk.now c.empty_files.new.disk c.write_heads.new.disk
    (from_read clock past c.args.base c.args.disk.now c.is_occupied.new.disk c.empty_files.new.disk c.is_occupied.ensures.time c.is_occupied.ensures.unchanged
    (none_or_new clock past c.args.base c.is_occupied.new.disk c.empty_files.new.disk (c.empty_files.ensures.any_moment told1 (subst NeverHasGate (sym same) never))))
    (none_or_new clock past c.args.base c.empty_files.new.disk c.write_heads.new.disk
    (c.write_heads.ensures.any_moment (c.empty_files.ensures.told told1) (emptied_yet (past c.empty_files.new.disk (clock c.empty_files.new.disk)) empty)))

pub returns-in_err-write_first_gate-clause-any_moment : goal.returns-in_err-write_first_gate-clause-any_moment
returns-in_err-write_first_gate-clause-any_moment g c told never =
    let clock = g.D.Disk.clock in let past = g.D.Disk.past in
    let same = as_read clock past c.args.base c.args.disk.now c.is_occupied.new.disk c.is_occupied.ensures.time c.is_occupied.ensures.unchanged in
    let told1 = c.is_occupied.ensures.told told in
    let told2 = c.empty_files.ensures.told told1 in
    let fs2 = past c.empty_files.new.disk (clock c.empty_files.new.disk) in
    let fs3 = past c.write_heads.new.disk (clock c.write_heads.new.disk) in
    let empty = c.in_ok-empty_files.ensures.emptied told1 in
    let headed = subst (λ (head : List ℕ). AreHeaded head fs2 fs3) c.new_head.ensures (c.in_ok-write_heads.ensures.headed told2 (heads_emptied fs2 empty)) in
    joined_new clock past c.args.base c.args.disk.now c.write_heads.new.disk c.write_first_gate.new.disk
    (joined_new clock past c.args.base c.args.disk.now c.empty_files.new.disk c.write_heads.new.disk
    (from_read clock past c.args.base c.args.disk.now c.is_occupied.new.disk c.empty_files.new.disk c.is_occupied.ensures.time c.is_occupied.ensures.unchanged
    (none_or_new clock past c.args.base c.is_occupied.new.disk c.empty_files.new.disk (c.empty_files.ensures.any_moment told1 (subst NeverHasGate (sym same) never))))
    (none_or_new clock past c.args.base c.empty_files.new.disk c.write_heads.new.disk (c.write_heads.ensures.any_moment told2 (emptied_yet fs2 empty))))
    (c.write_first_gate.ensures.any_moment c.args.base (c.write_heads.ensures.told told2) (ungated_by c.args.base fs2 fs3 empty headed))

pub returns-clause-any_moment : goal.returns-clause-any_moment
returns-clause-any_moment g c told never =
    let clock = g.D.Disk.clock in let past = g.D.Disk.past in
    let same = as_read clock past c.args.base c.args.disk.now c.is_occupied.new.disk c.is_occupied.ensures.time c.is_occupied.ensures.unchanged in
    let told1 = c.is_occupied.ensures.told told in
    let told2 = c.empty_files.ensures.told told1 in
    let fs2 = past c.empty_files.new.disk (clock c.empty_files.new.disk) in
    let fs3 = past c.write_heads.new.disk (clock c.write_heads.new.disk) in
    let empty = c.in_ok-empty_files.ensures.emptied told1 in
    let headed = subst (λ (head : List ℕ). AreHeaded head fs2 fs3) c.new_head.ensures (c.in_ok-write_heads.ensures.headed told2 (heads_emptied fs2 empty)) in
    joined_new clock past c.args.base c.args.disk.now c.write_heads.new.disk c.write_first_gate.new.disk
    (joined_new clock past c.args.base c.args.disk.now c.empty_files.new.disk c.write_heads.new.disk
    (from_read clock past c.args.base c.args.disk.now c.is_occupied.new.disk c.empty_files.new.disk c.is_occupied.ensures.time c.is_occupied.ensures.unchanged
    (none_or_new clock past c.args.base c.is_occupied.new.disk c.empty_files.new.disk (c.empty_files.ensures.any_moment told1 (subst NeverHasGate (sym same) never))))
    (none_or_new clock past c.args.base c.empty_files.new.disk c.write_heads.new.disk (c.write_heads.ensures.any_moment told2 (emptied_yet fs2 empty))))
    (c.write_first_gate.ensures.any_moment c.args.base (c.write_heads.ensures.told told2) (ungated_by c.args.base fs2 fs3 empty headed))

pub returns-clause-created : goal.returns-clause-created
returns-clause-created g c told =
    let clock = g.D.Disk.clock in let past = g.D.Disk.past in
    let told1 = c.is_occupied.ensures.told told in
    let told2 = c.empty_files.ensures.told told1 in
    let fs2 = past c.empty_files.new.disk (clock c.empty_files.new.disk) in
    let fs3 = past c.write_heads.new.disk (clock c.write_heads.new.disk) in
    let empty = c.in_ok-empty_files.ensures.emptied told1 in
    let headed = subst (λ (head : List ℕ). AreHeaded head fs2 fs3) c.new_head.ensures (c.in_ok-write_heads.ensures.headed told2 (heads_emptied fs2 empty)) in
    c.in_ok-write_first_gate.ensures.gated c.args.base (c.write_heads.ensures.told told2) (ungated_by c.args.base fs2 fs3 empty headed)
