-- What a read of a gate slot says.
use Rattle.std.proofs.Common.{◌≡◌, true, false, ℕ, ◌*◌, List, length, Option, Some, None, is_some, IfSome, sym, ap, subst, ◌∙◌}
use Rattle.pdb_disk.specs.Files.{FileBytes, StandsAt}
use Rattle.pdb_log.proofs.Bytes.{stands_same}
use Rattle.pdb_log.proofs.Gates.{gate_len}
use Rattle.pdb_model.specs.Gates.{IsGateSlot, gate_at, gate_bytes, gate_place}
use Rattle.pdb_model.specs.Logs.{HasGate}
use Rattle.pdb_model.specs.declared.gate_slot.GateSlot.{GateSlot}

pub slot_found : (c : FileBytes) (place : ℕ) (bytes : List ℕ) (o : Option GateSlot) → StandsAt c (4096 * place) bytes → IfSome o (λ g. IsGateSlot bytes place g) → is_some o ≡ true → (g : GateSlot) × HasGate c g
slot_found c place bytes None there only e = absurd cc
slot_found c place bytes (Some g) there only e = (
  g,
  record {
    there = subst (λ p. StandsAt c (gate_at p) (gate_bytes g)) only.here (subst (StandsAt c (4096 * place)) only.spelled there);
    sequence = only.sequence;
    number = only.number;
    commits = only.commits;
  },
)

pub no_slot : (c : FileBytes) (place : ℕ) (bytes : List ℕ) (o : Option GateSlot) → length bytes ≡ 64 → StandsAt c (4096 * place) bytes → ((g : GateSlot) → IsGateSlot bytes place g → o ≡ Some g) → is_some o ≡ false
    → (g : GateSlot) → gate_place g ≡ place → HasGate c g → ⊥
no_slot c place bytes o long there whole e g here has =
    let spelled = stands_same c (4096 * place) bytes (gate_bytes g) there (subst (λ p. StandsAt c (gate_at p) (gate_bytes g)) here has.there) (long ∙ sym (gate_len g)) in
    let found = whole g (record { spelled = spelled; here = sym here; sequence = has.sequence; number = has.number; commits = has.commits }) in
    let yes = ap is_some found in
    absurd cc
