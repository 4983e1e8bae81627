-- Gate slots as they are read, and the one in force.
use Rattle.std.proofs.Common.{◌≡◌, ◌⊎◌, inl, inr, ⊎_elim, ℕ, ◌+◌, ◌*◌, ◌%◌, ◌≤◌, List, Option, Some, None, length, refl, sym, ◌∙◌, ap, subst, arith}
use Rattle.std.specs.Prelude.{MatchOption, IfSome, slice_range}
use Rattle.pdb_disk.specs.Files.{FileBytes, StandsAt}
use Rattle.pdb_model.specs.Gates.{IsGateSlot, gate_at, gate_bytes, gate_place}
use Rattle.pdb_model.specs.Logs.{HasGate, IsGate}
use Rattle.pdb_model.specs.declared.gate_slot.GateSlot.{GateSlot}
use Rattle.pdb_record.proofs.Fields.{same_number}
use Rattle.pdb_log.proofs.Bytes.{stands_same}
use Rattle.pdb_log.proofs.Gates.{gate_len}

-- what a slot has at a place, 0 or 1
abbrev pub Slot : FileBytes → ℕ → Option GateSlot → Type 0
Slot c place o = MatchOption o ((g : GateSlot) → HasGate c g → g.sequence % 2 ≡ place → ⊥) (λ g. HasGate c g × (g.sequence % 2 ≡ place))

none_some : (o : Option GateSlot) (g : GateSlot) → o ≡ None → o ≡ Some g → ⊥
none_some o g p q = cc

pub slot_read : (c : FileBytes) (place at : ℕ) (xs : List ℕ) (o : Option GateSlot) → length xs ≡ 64 → at ≡ 4096 * place → StandsAt c at xs
    → ((g : GateSlot) → IsGateSlot xs place g → o ≡ Some g) → IfSome o (λ g. IsGateSlot xs place g) → Slot c place o
slot_read c place at xs None len e h whole only = λ g has is.
    let p : gate_at (gate_place g) ≡ at = ap gate_at is ∙ sym e in
    let same : xs ≡ gate_bytes g = stands_same c at xs (gate_bytes g) h (subst (λ a. StandsAt c a (gate_bytes g)) p has.there) (len ∙ sym (gate_len g)) in
    none_some None g refl (whole g (record { spelled = same; here = sym is; sequence = has.sequence; number = has.number; commits = has.commits }))
slot_read c place at xs (Some g) len e h whole only =
    let p : at ≡ gate_at (gate_place g) = e ∙ ap gate_at only.here in (
      record {
        there = subst (λ a. StandsAt c a (gate_bytes g)) p (subst (λ ys. StandsAt c at ys) only.spelled h);
        sequence = only.sequence;
        number = only.number;
        commits = only.commits;
      },
      sym only.here,
    )

-- a place has one gate at most
one_here : (c : FileBytes) (g h : GateSlot) → HasGate c g → HasGate c h → g.sequence % 2 ≡ h.sequence % 2 → g.sequence ≡ h.sequence
unfolding gate_bytes
one_here c g h has too e =
    let there : StandsAt c (gate_at (gate_place g)) (gate_bytes h) = subst (λ p. StandsAt c (gate_at p) (gate_bytes h)) (sym e) too.there in
    let same : gate_bytes g ≡ gate_bytes h = stands_same c (gate_at (gate_place g)) (gate_bytes g) (gate_bytes h) has.there there (gate_len g ∙ sym (gate_len h)) in
    same_number _ _ has.sequence too.sequence (ap (λ b. slice_range b 8 (8 + 8)) same)

parity : (n : ℕ) → (n % 2 ≡ 0) ⊎ (n % 2 ≡ 1)
parity n = grind arith

-- the gate of a slot with a sequence no lower than that of the other, if that is whole
pub in_force : (c : FileBytes) (p q : ℕ) (g : GateSlot) (o : Option GateSlot) → ((n : ℕ) → (n % 2 ≡ p) ⊎ (n % 2 ≡ q)) → Slot c p (Some g) → Slot c q o
    → IfSome o (λ h. h.sequence ≤ g.sequence) → IsGate c g
in_force c p q g None which here other low = record {
  whole = here.0;
  newest = λ h has. ⊎_elim
      (λ e. let s = one_here c h g has here.0 (e ∙ sym here.1) in omega (arith, s))
      (λ e. absurd (other h has e))
      (which h.sequence);
}
in_force c p q g (Some o) which here other low = record {
  whole = here.0;
  newest = λ h has. ⊎_elim
      (λ e. let s = one_here c h g has here.0 (e ∙ sym here.1) in omega (arith, s))
      (λ e. let s = one_here c h o has other.0 (e ∙ sym other.1) in omega (arith, s, low))
      (which h.sequence);
}

pub even_in_force : (c : FileBytes) (g : GateSlot) (o : Option GateSlot) → Slot c 0 (Some g) → Slot c 1 o → IfSome o (λ h. h.sequence ≤ g.sequence) → IsGate c g
even_in_force c g o here other low = in_force c 0 1 g o parity here other low

pub odd_in_force : (c : FileBytes) (g : GateSlot) (o : Option GateSlot) → Slot c 1 (Some g) → Slot c 0 o → IfSome o (λ h. h.sequence ≤ g.sequence) → IsGate c g
odd_in_force c g o here other low = in_force c 1 0 g o (λ n. ⊎_elim (λ e. inr e) (λ e. inl e) (parity n)) here other low

-- only the odd one, if any
pub odd_alone : (c : FileBytes) (o : Option GateSlot) → Slot c 0 None → Slot c 1 o → MatchOption o ((g : GateSlot) → HasGate c g → ⊥) (IsGate c)
odd_alone c None none other = λ g has. ⊎_elim (λ e. none g has e) (λ e. other g has e) (parity g.sequence)
odd_alone c (Some g) none other = odd_in_force c g None other none tt
