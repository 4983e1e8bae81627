-- The first gate, while it is written and once it is synced.
use Rattle.std.proofs.Common.{◌≡◌, ◌≢◌, inl, inr, ⊎_elim, ℕ, zero, suc, ◌+◌, ◌≤◌, List, [], ◌∷◌, ◌++◌, take, IsSome, refl, sym, ◌∙◌, ap, subst, arith}
use Rattle.std.proofs.lemmas.Bool.{cases_eq}
use Rattle.pdb_cells.specs.Sizes.{head_file, size_of}
use Rattle.pdb_disk.specs.Files.{AllSpare, Begins, FileBytes, FileState, Files, Image, IsFileImage, IsImage, IsSynced, Settles, StandsAt, Step, done}
use Rattle.pdb_disk.specs.Files.{Step as step}
use Rattle.pdb_disk.proofs.Images.{done_spared}
use Rattle.pdb_log.proofs.Bytes.{stands_decides}
use Rattle.pdb_log.proofs.Gates.{Fits, done_stands, gate_fits, gate_len, gate_same, has_gate, place_of}
use Rattle.pdb_log.specs.Ledger.{IsEmptyFile}
use Rattle.pdb_log.specs.Recovered.{IsRecovered, IsStoreFile}
use Rattle.pdb_model.proofs.Scans.{nothing_taken}
use Rattle.pdb_model.specs.Gates.{gate_bytes}
use Rattle.pdb_model.specs.Logs.{HasGate, IsGate, gate_file}
use Rattle.pdb_model.specs.Recovery.{Laid, after_steps, cells_of_files}
use Rattle.pdb_model.specs.declared.gate_slot.GateSlot.{GateSlot}
use Rattle.pdb_redo.specs.Creating.{IsNoneOrNew, new_head, new_row}
use Rattle.pdb_redo.specs.inner.Creation.{AreUngated, first_gate, heads_bytes}
use Rattle.pdb_redo.proofs.CreatGates.{no_gate_in_zeros}
use Rattle.pdb_redo.proofs.NewCells.{new_cells_are}

abbrev pub first_write : Step
first_write = step.Write 0 (gate_bytes first_gate)

first_fits : Fits first_gate
first_fits = record { sequence = omega arith; number = omega arith; commits = omega arith }

-- after the write the first gate is the only one
only_first : (g : GateSlot) → Fits g → StandsAt (done (λ i. 0) first_write) (place_of g) (gate_bytes g) → g ≡ first_gate
only_first g fits there = ⊎_elim
    (λ same. gate_same (done (λ i. 0) first_write) 0 g first_gate fits first_fits (subst (λ p. StandsAt (done (λ i. 0) first_write) p (gate_bytes g)) same there)
    (done_stands (λ i. 0) 0 (gate_bytes first_gate)))
    (λ other. absurd (no_gate_in_zeros (place_of g) g (λ i low. there i low
    ∙ done_spared (λ k. 0) first_write (place_of g + i) (inr (let long = gate_len first_gate in omega (arith, long, other))))))
    (cases_eq (place_of g) 0)

is_first : (c : FileBytes) → StandsAt c 0 (gate_bytes first_gate) → ((g : GateSlot) → HasGate c g → g ≡ first_gate) → IsGate c first_gate
is_first c there only = record {
  whole = has_gate c first_gate first_fits there;
  newest = λ h has. let e = ap (λ (s : GateSlot). s.sequence) (only h has) in omega (arith, e);
}

settled_image : (s : FileState) (c d : FileBytes) → s.kept ≡ d → s.since ≡ [] → IsFileImage s c → c ≡ d
settled_image s c d kept since image = λ k i. (image i (subst (λ (ss : List Step). AllSpare ss i) (sym since) tt) ∙ ap (λ (e : FileBytes). e i) kept) k

not_gate : (j : ℕ) → 1 ≤ j → j ≢ gate_file
not_gate j low e = omega (arith, low, e)

module _ (base : ℕ) (old new : Files) (ungated : AreUngated base old) (others : (j : ℕ) → j ≢ gate_file → new j ≡ old j) (x : Image) (image : IsImage new x) where
  other_image : (j : ℕ) → j ≢ gate_file → IsFileImage (old j) (x j)
  other_image j other = subst (λ (s : FileState). IsFileImage s (x j)) (others j other) (image j)

  empty_image : (j : ℕ) → IsStoreFile j → j ≢ gate_file → j ≢ head_file → x j ≡ (λ i. 0)
  empty_image j stored other not_heads =
      let empty = ungated.empty j stored not_heads in settled_image (old j) (x j) (λ i. 0) empty.kept empty.since (other_image j other)

  cell_file : (j : ℕ) → IsSome (size_of j) → j ≢ gate_file
  cell_file zero some e = absurd cc
  cell_file (suc j) some e = omega (arith, e)

  heads_image : x head_file ≡ heads_bytes (new_head base)
  heads_image = settled_image (old head_file) (x head_file) (heads_bytes (new_head base)) ungated.heads.kept ungated.heads.since (other_image head_file (λ e. omega (arith, e)))

  pub cells_new : (file index : ℕ) → (new_row base).cells file index ≡ cells_of_files x file index
  cells_new = new_cells_are base x (λ j some not_heads. empty_image j (inr some) (cell_file j some) not_heads) heads_image

  pub laid_new : IsGate (x gate_file) first_gate → Laid x (new_row base)
  laid_new is = record {
    gate = first_gate;
    is_gate = is;
    taken = [];
    are_taken = nothing_taken x 0 (λ j log. ap (λ (c : FileBytes). c 0) (empty_image j (inl log.1) (not_gate j log.0) (λ e. let high = log.1 in omega (arith, e, high))));
    cells = cells_new;
    commits = refl;
  }

-- while the gate isn't synced
pub gate_pending : (base : ℕ) (old mid : Files) → AreUngated base old → Begins gate_file first_write old mid → IsNoneOrNew base mid
gate_pending base old mid ungated begun x image clear = ⊎_elim
    (λ there. inr (laid_new base old mid ungated begun.others x image (is_first (x gate_file) there only)))
    (λ gone. inl (λ g has. gone (subst (λ (h : GateSlot). StandsAt (x gate_file) (place_of h) (gate_bytes h)) (only g has) has.there)))
    (stands_decides (x gate_file) 0 (gate_bytes first_gate))
  where
    empty : IsEmptyFile (old gate_file)
    empty = ungated.empty gate_file (inl (omega arith)) (λ e. omega (arith, e))

    stood : (k : ℕ) (g : GateSlot) → Fits g → StandsAt (after_steps (λ i. 0) (take k (first_write ∷ []))) (place_of g) (gate_bytes g) → g ≡ first_gate
    stood zero g fits h = absurd (no_gate_in_zeros (place_of g) g h)
    stood (suc zero) g fits h = only_first g fits h
    stood (suc (suc k)) g fits h = only_first g fits h

    only : (g : GateSlot) → HasGate (x gate_file) g → g ≡ first_gate
    only g has =
        let n = clear.gates g has in
        let steps : (mid gate_file).since ≡ first_write ∷ [] = begun.since ∙ ap (λ (ss : List Step). ss ++ first_write ∷ []) empty.since in
        let content : after_steps (mid gate_file).kept (take n.0 (mid gate_file).since) ≡ after_steps (λ i. 0) (take n.0 (first_write ∷ [])) =
        ap (λ (c : FileBytes). after_steps c (take n.0 (mid gate_file).since)) (begun.kept ∙ empty.kept) ∙ ap (λ (ss : List Step). after_steps (λ i. 0) (take n.0 ss)) steps in
        stood n.0 g (gate_fits (x gate_file) g has) (subst (λ (c : FileBytes). StandsAt c (place_of g) (gate_bytes g)) content n.1)

-- once it is synced the database is there
pub gate_recovered : (base : ℕ) (old mid new : Files) → AreUngated base old → Begins gate_file first_write old mid → (mid gate_file).read ≡ done (old gate_file).read first_write → Settles gate_file mid new
    → IsRecovered new first_gate (new_row base)
gate_recovered base old mid new ungated begun written settles = record {
  gate = record {
    whole = subst (λ (c : FileBytes). IsGate c first_gate) (sym bytes) (is_first (done (λ i. 0) first_write) (done_stands (λ i. 0) 0 (gate_bytes first_gate)) (λ g has. only_first g (gate_fits (done (λ i. 0) first_write) g has) has.there));
    synced = settles.since;
  };
  settled = λ j stored. ⊎_elim
      (λ here. subst (λ k. IsSynced (new k)) (sym here) (record { kept = settles.kept ∙ sym settles.read; since = settles.since }))
      (λ other. subst IsSynced (sym (others j other)) (⊎_elim
      (λ heads. subst (λ k. IsSynced (old k)) (sym heads) (record { kept = ungated.heads.kept ∙ sym ungated.heads.read; since = ungated.heads.since }))
      (λ not_heads. let empty = ungated.empty j stored not_heads in record { kept = empty.kept ∙ sym empty.read; since = empty.since })
      (cases_eq j head_file)))
      (cases_eq j gate_file);
  empty = λ j log. subst IsEmptyFile (sym (others j (not_gate j log.0))) (ungated.empty j (inl log.1) (λ e. let low = log.1 in omega (arith, e, low)));
  cells = λ x image. cells_new base old new ungated others x image;
  commits = refl;
}
  where
    others : (j : ℕ) → j ≢ gate_file → new j ≡ old j
    others j other = settles.others j other ∙ begun.others j other

    empty : IsEmptyFile (old gate_file)
    empty = ungated.empty gate_file (inl (omega arith)) (λ e. omega (arith, e))

    bytes : (new gate_file).kept ≡ done (λ i. 0) first_write
    bytes = settles.kept ∙ written ∙ ap (λ (c : FileBytes). done c first_write) empty.read

pub recovered_new : (base : ℕ) (old mid new : Files) → AreUngated base old → Begins gate_file first_write old mid → (mid gate_file).read ≡ done (old gate_file).read first_write → Settles gate_file mid new
    → IsNoneOrNew base new
recovered_new base old mid new ungated begun written settles x image clear =
    let there = gate_recovered base old mid new ungated begun written settles in
    let kept = there.gate in
    inr (laid_new base old new ungated (λ j other. settles.others j other ∙ begun.others j other) x image
    (subst (λ (c : FileBytes). IsGate c first_gate) (sym (settled_image (new gate_file) (x gate_file) (new gate_file).kept refl kept.synced (image gate_file))) kept.whole))
