use Rattle.std.proofs.Common.{◌≡◌, ◌%◌, true, Some, sym, ap, ◌∙◌}
use Rattle.std.proofs.lemmas.Slice.Eq.{bytes_eq-Decides}
use Rattle.pdb_model.specs.Gates.{gate_bytes}
use Rattle.pdb_model.specs.declared.gate_slot.GateSlot.{GateSlot}
use Rattle.pdb_record.proofs.Fields.{ReadsGate, one_gate}
use Rattle.pdb_record.proofs.gate.read_gate.Goals.{else-g-from-via-then-g-from+else-eq, else-g-from-via-else-g-from}
use Rattle.pdb_record.proofs.gate.read_gate.Goals as goal

pub returns-then-eq-clause-whole : goal.returns-then-eq-clause-whole
returns-then-eq-clause-whole c g is =
    let reads : ReadsGate c.args.bytes.now (record { sequence = c.number_at.result; number = c.number_at-2.result; commits = c.number_at-3.result })
    = record { sequence = c.number_at.ensures; number = c.number_at-2.ensures; commits = c.number_at-3.ensures; small_sequence = c.number_at.type_inv; small_number = c.number_at-2.type_inv; small_commits = c.number_at-3.type_inv } in
    ap Some (one_gate c.args.bytes.now c.args.place g _ is reads)

pub returns-else-g-from-clause-whole : goal.returns-else-g-from-clause-whole
returns-else-g-from-clause-whole c g is =
    let h : GateSlot = record { sequence = c.number_at.result; number = c.number_at-2.result; commits = c.number_at-3.result } in
    let reads : ReadsGate c.args.bytes.now h
    = record { sequence = c.number_at.ensures; number = c.number_at-2.ensures; commits = c.number_at-3.ensures; small_sequence = c.number_at.type_inv; small_number = c.number_at-2.type_inv; small_commits = c.number_at-3.type_inv } in
    let same : h ≡ g = one_gate c.args.bytes.now c.args.place g h is reads in
    elim c.else-g-from.branch [
      | else-g-from-via-then-g-from+else-eq w ↦
          let spelled : w.gate_bytes.result ≡ c.args.bytes.now = w.gate_bytes.ensures ∙ (ap gate_bytes same ∙ sym is.spelled) in
          let equal : w.eq.result ≡ true = w.eq.ensures ∙ (bytes_eq-Decides _ _).1 spelled in
          cc
      | else-g-from-via-else-g-from w ↦
          let here : c.number_at.result ≡ g.sequence = ap (λ (s : GateSlot). s.sequence) same in
          absurd (w.if-g-from.false (ap (λ n. n % 2) here ∙ (sym is.here ∙ sym c.from.ensures)))
    ]
