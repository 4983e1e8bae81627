-- The numbers in a gate slot and in a header.
use Rattle.std.proofs.Common.{◌≡◌, ◌+◌, ◌^◌, ◌<◌, ℕ, List, sym, ap, ◌∙◌, arith}
use Rattle.std.specs.Prelude.{slice_range}
use Rattle.std.specs.Int.{w64, to_le_bytes, from_le_bytes}
use Rattle.std.proofs.lemmas.Nat.{from_le_bytes-to_le_bytes_8}
use Rattle.pdb_model.specs.Gates.{IsGateSlot, gate_bytes}
use Rattle.pdb_model.specs.Records.{header_bytes}
use Rattle.pdb_model.specs.declared.gate_slot.GateSlot.{GateSlot}
use Rattle.pdb_record.specs.Heads.{IsHeaderOf}
use Rattle.pdb_record.specs.declared.heads.Head.{Head}

pub same_number : (a b : ℕ) → a < 2 ^ 64 → b < 2 ^ 64 → to_le_bytes w64 a ≡ to_le_bytes w64 b → a ≡ b
same_number a b small low e = sym (from_le_bytes-to_le_bytes_8 a small) ∙ (ap (from_le_bytes w64) e ∙ from_le_bytes-to_le_bytes_8 b low)

-- what the places of a gate slot's numbers hold
pub record ReadsGate (bytes : List ℕ) (h : GateSlot) : Type 0 where
  pub sequence : to_le_bytes w64 h.sequence ≡ slice_range bytes 8 (8 + 8)
  pub number : to_le_bytes w64 h.number ≡ slice_range bytes 16 (16 + 8)
  pub commits : to_le_bytes w64 h.commits ≡ slice_range bytes 24 (24 + 8)
  pub small_sequence : h.sequence < 2 ^ 64
  pub small_number : h.number < 2 ^ 64
  pub small_commits : h.commits < 2 ^ 64

pub one_gate : (bytes : List ℕ) (place : ℕ) (g h : GateSlot) → IsGateSlot bytes place g → ReadsGate bytes h → h ≡ g
unfolding gate_bytes
one_gate bytes place g h is reads =
    let sequence : h.sequence ≡ g.sequence = same_number _ _ reads.small_sequence is.sequence (reads.sequence ∙ ap (λ b. slice_range b 8 (8 + 8)) is.spelled) in
    let number : h.number ≡ g.number = same_number _ _ reads.small_number is.number (reads.number ∙ ap (λ b. slice_range b 16 (16 + 8)) is.spelled) in
    let commits : h.commits ≡ g.commits = same_number _ _ reads.small_commits is.commits (reads.commits ∙ ap (λ b. slice_range b 24 (24 + 8)) is.spelled) in
    λ i. record { sequence = sequence i; number = number i; commits = commits i }

-- what the places of a header's numbers hold
pub record ReadsHead (bytes : List ℕ) (h : Head) : Type 0 where
  pub number : to_le_bytes w64 h.number ≡ slice_range bytes 8 (8 + 8)
  pub commits : to_le_bytes w64 h.commits ≡ slice_range bytes 16 (16 + 8)
  pub body : to_le_bytes w64 h.body ≡ slice_range bytes 24 (24 + 8)
  pub puts : to_le_bytes w64 h.puts ≡ slice_range bytes 32 (32 + 8)
  pub small_number : h.number < 2 ^ 64
  pub small_commits : h.commits < 2 ^ 64
  pub small_body : h.body < 2 ^ 64
  pub small_puts : h.puts < 2 ^ 64

pub one_head : (bytes : List ℕ) (g h : Head) → IsHeaderOf bytes g → ReadsHead bytes h → h ≡ g
unfolding header_bytes
one_head bytes g h is reads =
    let number : h.number ≡ g.number = same_number _ _ reads.small_number is.is.narrow_number (reads.number ∙ ap (λ b. slice_range b 8 (8 + 8)) is.spelled) in
    let commits : h.commits ≡ g.commits = same_number _ _ reads.small_commits is.is.narrow_commits (reads.commits ∙ ap (λ b. slice_range b 16 (16 + 8)) is.spelled) in
    let body : h.body ≡ g.body = same_number _ _ reads.small_body (omega (arith, is.is.short)) (reads.body ∙ ap (λ b. slice_range b 24 (24 + 8)) is.spelled) in
    let puts : h.puts ≡ g.puts = same_number _ _ reads.small_puts is.is.narrow_puts (reads.puts ∙ ap (λ b. slice_range b 32 (32 + 8)) is.spelled) in
    λ i. record { number = number i; commits = commits i; body = body i; puts = puts i }
