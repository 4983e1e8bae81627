use Rattle.std.proofs.Common.{◌≡◌, ◌-◌, ℕ, List, Some, Bor, deque_len, length, refl, ap, sym, ◌∙◌, arith}
use Rattle.std.specs.Prelude.{get_or, slice_get}
use Rattle.std.specs.Option.{option_map}
use Rattle.std.proofs.lemmas.Option.{get_or_from_slice_get, slice_get_read, slice_get_within}
use Rattle.pdb_cells.specs.declared.Put.{Put}
use Rattle.pdb_redo.specs.Backlogs.{records_in}
use Rattle.pdb_redo.specs.Places.{newest}
use Rattle.pdb_redo.specs.declared.queue.Queue.{Queue}
use Rattle.pdb_redo.proofs.BacklogFound.{found_at, put_here, unknown_none}
use Rattle.pdb_redo.proofs.backlog.Backlog.get.Goals as goal

pub returns-in_err-place : goal.returns-in_err-place
returns-in_err-place c =
    ap (option_map (λ (b : Bor (List ℕ)). b.now)) c.from_residual.ensures
    ∙ sym (unknown_none c.self.inside.queue.records.items c.self.inside.queue.places c.args.name.now c.self.invariant (sym c.in_err-place.ensures.value))
    ∙ ap (λ (q : Queue). newest (records_in q) c.args.name.now) c.self.view_is

pub overflow_sub-place : goal.overflow_sub-place
overflow_sub-place c =
    let ws = c.self.inside.queue.records.items in
    let w = c.in_ok-first.first.now in
    let some = c.in_ok-first.ensures.variant.0 refl in
    let first : slice_get ws 0 ≡ Some w = slice_get_read ws (deque_len c.self.inside.queue.records) 0 w c.self.inside.queue.records.ok.0 some c.in_ok-first.ensures.lookup in
    (found_at ws c.self.inside.queue.places c.args.name.now c.in_ok-place.place.now w c.self.invariant (sym c.in_ok-place.ensures.value) first).from

pub returns-in_err-record : goal.returns-in_err-record
returns-in_err-record c =
    let ws = c.self.inside.queue.records.items in
    let w = c.in_ok-first.first.now in
    let some = c.in_ok-first.ensures.variant.0 refl in
    let first : slice_get ws 0 ≡ Some w = slice_get_read ws (deque_len c.self.inside.queue.records) 0 w c.self.inside.queue.records.ok.0 some c.in_ok-first.ensures.lookup in
    let at = found_at ws c.self.inside.queue.places c.args.name.now c.in_ok-place.place.now w c.self.invariant (sym c.in_ok-place.ensures.value) first in
    let within = slice_get_within ws (c.in_ok-place.place.now.number - w.number) at.waiting at.record_is in
    let long = c.self.inside.queue.records.ok.0 in
    let bad = c.in_err-record.ensures.variant.1 (omega (arith, within, long)) in
    absurd cc

pub bounds-as_slice-place : goal.bounds-as_slice-place
bounds-as_slice-place c =
    let found = put_here c.self.inside.queue.records.items (deque_len c.self.inside.queue.records) c.self.inside.queue.places c.args.name.now c.in_ok-place.place.now c.in_ok-first.first.now c.in_ok-record.record.now
    c.self.invariant c.in_ok-place.ensures.value c.self.inside.queue.records.ok.0 (c.in_ok-first.ensures.variant.0 refl) c.in_ok-first.ensures.lookup
    (c.in_ok-record.ensures.variant.0 refl) c.in_ok-record.ensures.lookup in
    let within = slice_get_within c.in_ok-record.record.now.puts c.in_ok-place.place.now.at found.0 found.1 in
    let same = ap (λ (puts : List Put). length puts) c.as_slice.ensures in
    omega (arith, within, same)

pub offset_bounds-as_slice-place : goal.offset_bounds-as_slice-place
offset_bounds-as_slice-place c =
    let found = put_here c.self.inside.queue.records.items (deque_len c.self.inside.queue.records) c.self.inside.queue.places c.args.name.now c.in_ok-place.place.now c.in_ok-first.first.now c.in_ok-record.record.now
    c.self.invariant c.in_ok-place.ensures.value c.self.inside.queue.records.ok.0 (c.in_ok-first.ensures.variant.0 refl) c.in_ok-first.ensures.lookup
    (c.in_ok-record.ensures.variant.0 refl) c.in_ok-record.ensures.lookup in
    let within = slice_get_within c.in_ok-record.record.now.puts c.in_ok-place.place.now.at found.0 found.1 in
    let same = ap (λ (puts : List Put). length puts) c.as_slice.ensures in
    let narrow = c.as_slice.type_inv.1 in
    omega (arith, within, same, narrow)

pub returns : goal.returns
returns c =
    let found = put_here c.self.inside.queue.records.items (deque_len c.self.inside.queue.records) c.self.inside.queue.places c.args.name.now c.in_ok-place.place.now c.in_ok-first.first.now c.in_ok-record.record.now
    c.self.invariant c.in_ok-place.ensures.value c.self.inside.queue.records.ok.0 (c.in_ok-first.ensures.variant.0 refl) c.in_ok-first.ensures.lookup
    (c.in_ok-record.ensures.variant.0 refl) c.in_ok-record.ensures.lookup in
    ap Some (c.as_slice-2.ensures
    ∙ ap (λ (p : Put). p.bytes) (ap (λ (puts : List Put). get_or puts c.in_ok-place.place.now.at c.index-as_slice-place.result) c.as_slice.ensures
    ∙ get_or_from_slice_get c.in_ok-record.record.now.puts c.in_ok-place.place.now.at found.0 c.index-as_slice-place.result found.1))
    ∙ sym found.2
    ∙ ap (λ (q : Queue). newest (records_in q) c.args.name.now) c.self.view_is
