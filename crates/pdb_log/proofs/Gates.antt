-- The gate while a new one is written.
use Rattle.std.proofs.Common.{◌≡◌, ◌⊎◌, inl, inr, ⊎_elim, ℕ, zero, suc, ◌+◌, ◌-◌, ◌*◌, ◌%◌, ◌≤◌, ◌<◌, ◌^◌, List, [], ◌∷◌, ◌++◌, length, get_or, take, refl, sym, ◌∙◌, ap, subst, arith, length-append}
use Rattle.std.specs.Prelude.{codes, replicate, slice_range}
use Rattle.std.proofs.lemmas.Bool.{cases_eq, cases_lt}
use Rattle.std.proofs.lemmas.Bool.Decides.{nat_tests}
use Rattle.std.specs.Int.{w64, to_le_bytes}
use Rattle.pdb_disk.specs.Files.{FileBytes, FileState, Step, Spares, AllSpare, IsFileImage, StandsAt, done}
use Rattle.pdb_disk.specs.Files.{Step as step}
use Rattle.pdb_disk.proofs.Images.{done_spared}
use Rattle.pdb_model.specs.Gates.{checksum, gate_at, gate_bytes, gate_place}
use Rattle.pdb_model.specs.Logs.{HasGate, IsGate}
use Rattle.pdb_model.specs.Recovery.{after_steps}
use Rattle.pdb_model.specs.declared.gate_slot.GateSlot.{GateSlot}
use Rattle.pdb_record.proofs.Fields.{same_number}
use Rattle.pdb_record.proofs.Lengths.{checksum_len}
use Rattle.pdb_log.specs.Ledger.{IsKeptGate}
use Rattle.pdb_log.proofs.Bytes.{stands_decides, stands_local, stands_same}
use Rattle.pdb_log.proofs.Images.{GateClear}

pub gate_len : (g : GateSlot) → length (gate_bytes g) ≡ 64
unfolding gate_bytes
gate_len g =
    let front : List ℕ = codes "SDBGATE1" ++ (to_le_bytes w64 g.sequence ++ (to_le_bytes w64 g.number ++ (to_le_bytes w64 g.commits ++ replicate 24 0))) in
    let long : length front ≡ 56 = refl in
    omega (arith, length-append front (checksum front), checksum_len front, long)

abbrev pub place_of : GateSlot → ℕ
place_of g = gate_at (gate_place g)

-- a gate's numbers are those of eight bytes
pub record Fits (g : GateSlot) : Type 0 where
  pub sequence : g.sequence < 2 ^ 64
  pub number : g.number < 2 ^ 64
  pub commits : g.commits < 2 ^ 64

pub done_stands : (c : FileBytes) (at : ℕ) (bs : List ℕ) → StandsAt (done c (step.Write at bs)) at bs
done_stands c at bs i l =
    let e : at + i - at ≡ i = omega arith in
    sym (inside i l ∙ ap (λ n. get_or bs n 0) e)
  where
    inside : (i : ℕ) → i < length bs → done c (step.Write at bs) (at + i) ≡ get_or bs (at + i - at) 0
    inside i l = grind (arith, nat_tests)

same_bytes : (g h : GateSlot) → Fits g → Fits h → gate_bytes g ≡ gate_bytes h → g ≡ h
unfolding gate_bytes
same_bytes g h fits too e =
    let s : g.sequence ≡ h.sequence = same_number _ _ fits.sequence too.sequence (ap (λ b. slice_range b 8 (8 + 8)) e) in
    let n : g.number ≡ h.number = same_number _ _ fits.number too.number (ap (λ b. slice_range b 16 (16 + 8)) e) in
    let k : g.commits ≡ h.commits = same_number _ _ fits.commits too.commits (ap (λ b. slice_range b 24 (24 + 8)) e) in
    λ i. record { sequence = s i; number = n i; commits = k i }

pub gate_fits : (c : FileBytes) (g : GateSlot) → HasGate c g → Fits g
gate_fits c g has = record { sequence = has.sequence; number = has.number; commits = has.commits }

pub has_gate : (c : FileBytes) (g : GateSlot) → Fits g → StandsAt c (place_of g) (gate_bytes g) → HasGate c g
has_gate c g fits there = record { there = there; sequence = fits.sequence; number = fits.number; commits = fits.commits }

pub gate_same : (c : FileBytes) (p : ℕ) (g h : GateSlot) → Fits g → Fits h → StandsAt c p (gate_bytes g) → StandsAt c p (gate_bytes h) → g ≡ h
gate_same c p g h fits too a b = same_bytes g h fits too (stands_same c p (gate_bytes g) (gate_bytes h) a b (gate_len g ∙ sym (gate_len h)))

-- two slots are the same or lie apart
apart : (a b i : ℕ) → (4096 * (a % 2) ≡ 4096 * (b % 2) → ⊥) → 4096 * (a % 2) ≤ i → i < 4096 * (a % 2) + 64 → (i < 4096 * (b % 2)) ⊎ (4096 * (b % 2) + 64 ≤ i)
apart a b i ne low high = ⊎_elim
    (λ l. inl l)
    (λ l. inr (let p : a % 2 < 2 = omega arith in let q : b % 2 < 2 = omega arith in omega (arith, ne, low, high, l, p, q)))
    (cases_lt i (4096 * (b % 2)))

other_slot : (a b : ℕ) → b ≡ a + 1 → 4096 * (a % 2) ≡ 4096 * (b % 2) → ⊥
other_slot a b e same = omega (arith, e, same)

-- a write of one slot spares the other
spares_other : (g h : GateSlot) (i : ℕ) → (place_of g ≡ place_of h → ⊥) → place_of g ≤ i → i < place_of g + length (gate_bytes g) → Spares (step.Write (place_of h) (gate_bytes h)) i
spares_other g h i ne low high =
    let n = gate_len g in let m = gate_len h in
    ⊎_elim (λ l. inl l) (λ l. inr (omega (arith, l, m))) (apart g.sequence h.sequence i ne low (omega (arith, high, n)))

module _ (kept : FileBytes) (g h : GateSlot) (is : IsGate kept g) (fits : Fits h) (next : h.sequence ≡ g.sequence + 1) where
  abbrev written : Step
  written = step.Write (place_of h) (gate_bytes h)

  -- a gate after the write is the new one or was there before
  after_write : (k : GateSlot) → HasGate (done kept written) k → (k ≡ h) ⊎ HasGate kept k
  after_write k has = ⊎_elim
      (λ e. inl (gate_same (done kept written) (place_of h) k h (gate_fits (done kept written) k has) fits (subst (λ p. StandsAt (done kept written) p (gate_bytes k)) e has.there) (done_stands kept (place_of h) (gate_bytes h))))
      (λ ne. inr (has_gate kept k (gate_fits (done kept written) k has) (stands_local kept (done kept written) (place_of k) (gate_bytes k)
      (λ i low high. sym (done_spared kept written i (spares_other k h i ne low high))) has.there)))
      (cases_eq (place_of k) (place_of h))

  -- the new gate once it is synced
  pub gate_written : IsGate (done kept written) h
  gate_written = record {
    whole = has_gate (done kept written) h fits (done_stands kept (place_of h) (gate_bytes h));
    newest = λ k has. ⊎_elim
        (λ e. let m = ap (λ (x : GateSlot). x.sequence) e in omega (arith, m))
        (λ old. let m = is.newest k old in omega (arith, m, next))
        (after_write k has);
  }

  -- either gate, as long as it isn't
  pub either_gate : (c : FileBytes) → ((i : ℕ) → Spares written i → c i ≡ kept i)
      → ((k : GateSlot) → HasGate c k → HasGate kept k ⊎ HasGate (done kept written) k)
      → IsGate c g ⊎ IsGate c h
  either_gate c spared stood = ⊎_elim
      (λ there. inr (record {
        whole = has_gate c h fits there;
        newest = λ k hk. ⊎_elim (λ e. let m = ap (λ (x : GateSlot). x.sequence) e in omega (arith, m)) (λ old. let m = is.newest k old in omega (arith, m, next)) (new_or_old k hk);
      }))
      (λ gone. inl (record {
        whole = has_gate c g (gate_fits kept g is.whole) (stands_local c kept (place_of g) (gate_bytes g)
            (λ i low high. spared i (spares_other g h i (other_slot g.sequence h.sequence next) low high)) is.whole.there);
        newest = λ k hk. ⊎_elim (λ e. absurd (gone (subst (λ (x : GateSlot). StandsAt c (place_of x) (gate_bytes x)) e hk.there))) (λ old. is.newest k old) (new_or_old k hk);
      }))
      (stands_decides c (place_of h) (gate_bytes h))
    where
      new_or_old : (k : GateSlot) → HasGate c k → (k ≡ h) ⊎ HasGate kept k
      new_or_old k hk = ⊎_elim (λ old. inr old) (λ new. after_write k new) (stood k hk)

-- in the images of the file that the write was begun on
pub either_in : (s t : FileState) (g h : GateSlot) → IsKeptGate s g → Fits h → h.sequence ≡ g.sequence + 1 → t.kept ≡ s.kept → t.since ≡ s.since ++ step.Write (place_of h) (gate_bytes h) ∷ []
    → (c : FileBytes) → IsFileImage t c → GateClear t c → IsGate c g ⊎ IsGate c h
either_in s t g h has fits next kept since c image clear = either_gate s.kept g h has.whole fits next c
    (λ i sp. image i (subst (λ (ss : List Step). AllSpare ss i) (sym steps) (sp, tt)) ∙ ap (λ (d : FileBytes). d i) kept)
    (λ k hk.
    let n = clear k hk in
    let content : after_steps t.kept (take n.0 t.since) ≡ after_steps s.kept (take n.0 (w ∷ [])) =
    ap (λ (d : FileBytes). after_steps d (take n.0 t.since)) kept ∙ ap (λ (ss : List Step). after_steps s.kept (take n.0 ss)) steps in
    stood n.0 k (gate_fits c k hk) (subst (λ (d : FileBytes). StandsAt d (place_of k) (gate_bytes k)) content n.1))
  where
    w : Step
    w = step.Write (place_of h) (gate_bytes h)

    steps : t.since ≡ w ∷ []
    steps = since ∙ ap (λ (ss : List Step). ss ++ w ∷ []) has.synced

    stood : (n : ℕ) (k : GateSlot) → Fits k → StandsAt (after_steps s.kept (take n (w ∷ []))) (place_of k) (gate_bytes k) → HasGate s.kept k ⊎ HasGate (done s.kept w) k
    stood zero k f x = inl (has_gate s.kept k f x)
    stood (suc zero) k f x = inr (has_gate (done s.kept w) k f x)
    stood (suc (suc n)) k f x = inr (has_gate (done s.kept w) k f x)
