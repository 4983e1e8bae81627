use Rattle.std.proofs.Common.{◌≡◌, ◌-◌, List, deque_len, length, refl, ap, sym, ◌∙◌, arith}
use Rattle.std.specs.Prelude.{get_or}
use Rattle.std.proofs.lemmas.Option.{get_or_from_slice_get, slice_get_within}
use Rattle.sdb_base.specs.Keeping.{operations}
use Rattle.sdb_base.specs.declared.op.Op.{Op}
use Rattle.pdb_overlay.specs.Lending.{newest_said}
use Rattle.pdb_overlay.specs.inner.Placing.{said_by}
use Rattle.pdb_overlay.proofs.Looking.{none_found, op_found, place_found}
use Rattle.pdb_overlay.proofs.Sayings.{says_of_own}
use Rattle.pdb_overlay.proofs.queue.Queue.lend.Goals as goal

pub returns-in_default : goal.returns-in_default
returns-in_default c =
    sym (none_found c.self.inside.first c.args.column c.args.key.now c.self.inside.commits.items c.self.inside.places c.self.invariant c.in_default.ensures)
    ∙ ap (λ (commits : List (List Op)). newest_said c.args.column c.args.key.now (operations commits)) c.self.view_is

pub overflow_sub-place : goal.overflow_sub-place
overflow_sub-place c =
    let is = place_found c.self.inside.first c.args.column c.args.key.now c.self.inside.commits.items c.self.inside.places c.self.invariant c.in-Some.place c.in-Some.ensures in
    is.from

pub returns-in_default-get : goal.returns-in_default-get
returns-in_default-get c =
    let commits = c.self.inside.commits.items in
    let is = place_found c.self.inside.first c.args.column c.args.key.now commits c.self.inside.places c.self.invariant c.in-Some.place c.in-Some.ensures in
    let within = slice_get_within commits (c.in-Some.place.number - c.self.inside.first) is.ops is.commit in
    let long = c.self.inside.commits.ok.0 in
    let bad = c.in_default-get.ensures.variant.1 (omega (arith, within, long)) in
    absurd cc

pub bounds-as_slice-place : goal.bounds-as_slice-place
bounds-as_slice-place c =
    let found = op_found c.self.inside.first c.args.column c.args.key.now c.self.inside.commits.items c.self.inside.places c.self.invariant c.in-Some.place
    (deque_len c.self.inside.commits) c.in-Some-get.ops.now c.in-Some.ensures c.self.inside.commits.ok.0 (c.in-Some-get.ensures.variant.0 refl) c.in-Some-get.ensures.lookup in
    let within = slice_get_within c.in-Some-get.ops.now c.in-Some.place.at found.0 found.1 in
    let same = ap (λ (ops : List Op). length ops) c.as_slice.ensures in
    omega (arith, within, same)

pub offset_bounds-as_slice-place : goal.offset_bounds-as_slice-place
offset_bounds-as_slice-place c =
    let found = op_found c.self.inside.first c.args.column c.args.key.now c.self.inside.commits.items c.self.inside.places c.self.invariant c.in-Some.place
    (deque_len c.self.inside.commits) c.in-Some-get.ops.now c.in-Some.ensures c.self.inside.commits.ok.0 (c.in-Some-get.ensures.variant.0 refl) c.in-Some-get.ensures.lookup in
    let within = slice_get_within c.in-Some-get.ops.now c.in-Some.place.at found.0 found.1 in
    let same = ap (λ (ops : List Op). length ops) c.as_slice.ensures in
    let narrow = c.as_slice.type_inv.1 in
    omega (arith, within, same, narrow)

pub returns : goal.returns
returns c =
    let found = op_found c.self.inside.first c.args.column c.args.key.now c.self.inside.commits.items c.self.inside.places c.self.invariant c.in-Some.place
    (deque_len c.self.inside.commits) c.in-Some-get.ops.now c.in-Some.ensures c.self.inside.commits.ok.0 (c.in-Some-get.ensures.variant.0 refl) c.in-Some-get.ensures.lookup in
    let op : c.index-as_slice-place.result ≡ found.0 =
    c.index-as_slice-place.is
    ∙ ap (λ (ops : List Op). get_or ops c.in-Some.place.at c.index-as_slice-place.result) c.as_slice.ensures
    ∙ get_or_from_slice_get c.in-Some-get.ops.now c.in-Some.place.at found.0 c.index-as_slice-place.result found.1 in
    c.of.ensures
    ∙ ap said_by op
    ∙ sym (says_of_own c.args.column c.args.key.now found.0 found.2)
    ∙ sym found.3
    ∙ ap (λ (commits : List (List Op)). newest_said c.args.column c.args.key.now (operations commits)) c.self.view_is
