-- The gate that passes what recovery took, while it is written.
use Rattle.std.proofs.Common.{◌≡◌, inl, ⊎_elim, ℕ, ◌≤◌, List, [], sym, ◌∙◌, ap, subst, arith}
use Rattle.std.proofs.lemmas.Bool.{cases_eq}
use Rattle.pdb_cells.specs.Content.{Content}
use Rattle.pdb_disk.specs.Files.{Begins, FileBytes, FileState, Files, Image, IsImage, MayBegin, Settles, Step, done, reads_of}
use Rattle.pdb_disk.specs.Files.{Step as step}
use Rattle.pdb_model.specs.Gates.{gate_bytes}
use Rattle.pdb_model.specs.Logs.{IsGate, IsLogFile, IsScanned, gate_file}
use Rattle.pdb_model.specs.Records.{Record}
use Rattle.pdb_model.specs.Recovery.{Row, cells_of_files, laid_over}
use Rattle.pdb_model.specs.declared.gate_slot.GateSlot.{GateSlot}
use Rattle.pdb_log.specs.Ledger.{IsKeptGate}
use Rattle.pdb_log.proofs.Gates.{Fits, either_in, gate_written, place_of}
use Rattle.pdb_log.proofs.Rows.{cells_only, only_cells, only_image}
use Rattle.pdb_recover.specs.Recovering.{IsBeforeGate, IsReady, IsSynced, Recovers}
use Rattle.pdb_recover.proofs.Clearing.{moved_cells}
use Rattle.pdb_recover.proofs.Laying.{laying_recovers, recovered_same}
use Rattle.pdb_recover.proofs.Settled.{cells_settled, settled_image, settled_same, settles_settled}

not_gate : (j : ℕ) → IsLogFile j → j ≡ gate_file → ⊥
not_gate j m e = let low = m.0 in omega (arith, low, e)

not_zero : (j : ℕ) → 9 ≤ j → j ≡ gate_file → ⊥
not_zero j high e = omega (arith, high, e)

module _ (old : Files) (row : Row) (gate : GateSlot) (taken : List Record) (g : GateSlot) (fits : Fits g) (is : IsBeforeGate old row gate taken g) where
  abbrev w : Step
  w = step.Write (place_of g) (gate_bytes g)

  at_gate : IsSynced (old gate_file)
  at_gate = is.settled gate_file (inl (omega arith))

  kept_gate : IsKeptGate (old gate_file) gate
  kept_gate = record { whole = subst (λ (c : FileBytes). IsGate c gate) (sym at_gate.kept) is.laying.gate; synced = at_gate.since }

  -- the cells are the row in each image
  cells_before : (x : Image) → IsImage old x → (file index : ℕ) → row.cells file index ≡ cells_of_files x file index
  cells_before x image file index = is.cells file index ∙ ap (λ (c : Content). c file index) (sym (cells_settled old x is.settled image))

  pub before_recovers : Recovers old row
  before_recovers = laying_recovers old row gate taken is.laying

  -- while the slot isn't synced
  pub gate_recovers : (new : Files) → Begins gate_file (step.Write (place_of g) (gate_bytes g)) old new → Recovers new row
  gate_recovers new begun x image clear = ⊎_elim
      (λ one. record {
        gate = gate;
        is_gate = one;
        taken = taken;
        are_taken = recovered_same (reads_of old) x gate.number taken logs is.laying.are_taken;
        cells = λ file index. is.laying.cells (cells_only old new x image others) (only_image old new x image others) file index
            ∙ ap (λ (c : Content). laid_over taken c file index) (only_cells old new x image others);
        commits = is.laying.commits;
      })
      (λ two. record {
        gate = g;
        is_gate = two;
        taken = [];
        are_taken = λ r found number. is.last found.file r found.is_log (subst (λ (c : FileBytes). IsScanned c r) (logs found.file found.is_log) found.scanned) number;
        cells = moved_cells old new row others cells_before x image;
        commits = is.commits;
      })
      (either_in (old gate_file) (new gate_file) gate g kept_gate fits is.sequence begun.kept begun.since (x gate_file) (image gate_file) clear.gates)
    where
      others : (j : ℕ) → 9 ≤ j → new j ≡ old j
      others j high = begun.others j (not_zero j high)

      logs : (j : ℕ) → IsLogFile j → x j ≡ (old j).read
      logs j m =
          let same : new j ≡ old j = begun.others j (not_gate j m) in
          settled_image (new j) (x j) (settled_same (old j) (new j) same (is.settled j (inl m.1))) (image j) ∙ ap (λ (s : FileState). s.read) same

  pub may_recovers_gate : (new : Files) → MayBegin gate_file (step.Write (place_of g) (gate_bytes g)) old new → Recovers new row
  may_recovers_gate new may = ⊎_elim (gate_recovers new) (λ e. subst (λ (fs : Files). Recovers fs row) (sym e) before_recovers) may

  -- and once it is
  pub gate_ready : (mid new : Files) → Begins gate_file (step.Write (place_of g) (gate_bytes g)) old mid
      → (mid gate_file).read ≡ done (old gate_file).read (step.Write (place_of g) (gate_bytes g)) → Settles gate_file mid new → IsReady new g row
  gate_ready mid new begun written settles = record {
    gate = record {
      whole = subst (λ (c : FileBytes). IsGate c g) (sym (settles.kept ∙ written ∙ ap (λ (c : FileBytes). done c w) (sym at_gate.kept))) (gate_written (old gate_file).kept gate g kept_gate.whole fits is.sequence);
      synced = settles.since;
    };
    gate_read = settles.read ∙ sym settles.kept;
    settled = λ j store. ⊎_elim
        (λ e. subst (λ k. IsSynced (new k)) (sym e) (settles_settled gate_file mid new settles))
        (λ ne. settled_same (old j) (new j) (others j ne) (is.settled j store))
        (cases_eq j gate_file);
    without = λ j m c image clear r scan.
        let same : new j ≡ old j = others j (not_gate j m) in
        let read : c ≡ (old j).read = settled_image (new j) c (settled_same (old j) (new j) same (is.settled j (inl m.1))) image ∙ ap (λ (s : FileState). s.read) same in
        is.last j r m (subst (λ (d : FileBytes). IsScanned d r) read scan);
    cells = moved_cells old new row (λ j high. others j (not_zero j high)) cells_before;
    commits = is.commits;
  }
    where
      others : (j : ℕ) → (j ≡ gate_file → ⊥) → new j ≡ old j
      others j ne = settles.others j ne ∙ begun.others j ne
