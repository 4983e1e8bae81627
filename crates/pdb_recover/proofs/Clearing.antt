-- Log files while they are cleared: what a crash leaves of a cut one, and recovery once the gate has passed all.
use Rattle.std.proofs.Common.{◌≡◌, inl, ⊎_elim, ℕ, zero, suc, ◌+◌, ◌≤◌, List, [], ◌∷◌, ◌++◌, length, take, refl, sym, ◌∙◌, ap, subst, arith}
use Rattle.std.proofs.lemmas.Bool.{cases_eq}
use Rattle.pdb_cells.specs.Content.{Content}
use Rattle.pdb_disk.specs.Files.{Begins, FileBytes, FileState, Files, Image, MayBegin, Settles, StandsAt, Step, IsImage, done}
use Rattle.pdb_disk.specs.Files.{Step as step}
use Rattle.pdb_model.proofs.Scans.{nothing_at_zeros}
use Rattle.pdb_model.specs.Logs.{AreInARow, IsGate, IsLogFile, IsScanned, StandsWhole, gate_file}
use Rattle.pdb_model.specs.Records.{Record, record_bytes}
use Rattle.pdb_model.specs.Recovery.{Row, after_steps, cells_of_files}
use Rattle.pdb_model.specs.declared.gate_slot.GateSlot.{GateSlot}
use Rattle.pdb_log.specs.Ledger.{IsEmptyFile, IsKeptGate}
use Rattle.pdb_log.proofs.Bytes.{none_in_zeros}
use Rattle.pdb_log.proofs.Rows.{cells_only, only_cells, only_image}
use Rattle.pdb_recover.specs.Recovering.{IsReady, IsSynced, IsWithoutNumber, Recovers}
use Rattle.pdb_recover.proofs.Settled.{kept_image, settled_same}

-- records that stand in a row in one file do so in another, where each record that a scan of the first comes to stands
pub row_in : (c d : FileBytes) (at n : ℕ) (rs : List Record) (end : ℕ)
    → ((before : List Record) (p : ℕ) (r : Record) → AreInARow c at n before p → StandsWhole c p r → StandsWhole d p r) → AreInARow c at n rs end → AreInARow d at n rs end
row_in c d at n [] end stands row = row
row_in c d at n (r ∷ rs) end stands row = (
  row.0,
  stands [] at r refl row.1,
  row_in c d (at + length (record_bytes r)) (n + 1) rs end (λ before p s more whole. stands (r ∷ before) p s (row.0, row.1, more) whole) row.2,
)

pub scanned_in : (c d : FileBytes) (r : Record)
    → ((n : ℕ) (before : List Record) (p : ℕ) (s : Record) → AreInARow c 0 n before p → StandsWhole c p s → StandsWhole d p s) → IsScanned c r → IsScanned d r
scanned_in c d r stands h = record {
  number = h.number;
  before = h.before;
  end = h.end;
  row = row_in c d 0 h.number h.before h.end (stands h.number) h.row;
  next = h.next;
  whole = stands h.number h.before h.end r h.row h.whole;
}

-- what stood in a file whose cut isn't synced stands in what is kept
stood_kept : (kept : FileBytes) (k at : ℕ) (r : Record) → StandsAt (after_steps kept (take k (step.Cut ∷ []))) at (record_bytes r) → StandsAt kept at (record_bytes r)
stood_kept kept zero at r h = h
stood_kept kept (suc zero) at r h = absurd (none_in_zeros at r h)
stood_kept kept (suc (suc k)) at r h = absurd (none_in_zeros at r h)

-- so whatever a crash leaves of it, a scan comes to no record of a number that what is kept is without
cut_without : (s t : FileState) (n : ℕ) → IsSynced s → IsWithoutNumber s n → t.kept ≡ s.kept → t.since ≡ s.since ++ step.Cut ∷ [] → IsWithoutNumber t n
cut_without s t n is without kept since c image clear r scan =
    without s.kept (λ i all. refl) (λ number before end q row whole. (0, whole.there)) r
    (scanned_in c s.kept r (λ number before p q row whole. record {
      is = whole.is;
      there = let stood = clear number before p q row whole in stood_kept s.kept stood.0 p q (subst (λ (d : FileBytes). StandsAt d p (record_bytes q)) (content stood.0) stood.1);
      within = whole.within;
    }) scan)
  where
    steps : t.since ≡ step.Cut ∷ []
    steps = since ∙ ap (λ (ss : List Step). ss ++ step.Cut ∷ []) is.since

    content : (k : ℕ) → after_steps t.kept (take k t.since) ≡ after_steps s.kept (take k (step.Cut ∷ []))
    content k = ap (λ (d : FileBytes). after_steps d (take k t.since)) kept ∙ ap (λ (ss : List Step). after_steps s.kept (take k ss)) steps

-- an empty file is without any
empty_without : (s : FileState) (n : ℕ) → IsEmptyFile s → IsWithoutNumber s n
empty_without s n is c image clear r scan number =
    nothing_at_zeros c r (ap (λ (d : FileBytes). d 0) (kept_image s c is.since image ∙ is.kept)) scan

-- ---- what recovery makes of it

-- the cells are the row, and a scan comes to no record that the gate hasn't passed
pub passed_recovers : (fs : Files) (g : GateSlot) (row : Row) → IsKeptGate (fs gate_file) g → ((j : ℕ) → IsLogFile j → IsWithoutNumber (fs j) (g.number + 1))
    → ((x : Image) → IsImage fs x → (file index : ℕ) → row.cells file index ≡ cells_of_files x file index) → row.commits ≡ g.commits → Recovers fs row
passed_recovers fs g row gate without cells commits x image clear = record {
  gate = g;
  is_gate = subst (λ (c : FileBytes). IsGate c g) (sym (kept_image (fs gate_file) (x gate_file) gate.synced (image gate_file))) gate.whole;
  taken = [];
  are_taken = λ r found number. without found.file found.is_log (x found.file) (image found.file)
      (λ n before end s row_to whole. clear.records found.file n before end s found.is_log row_to whole) r found.scanned number;
  cells = cells x image;
  commits = commits;
}

pub ready_recovers : (fs : Files) (g : GateSlot) (row : Row) → IsReady fs g row → Recovers fs row
ready_recovers fs g row is = passed_recovers fs g row is.gate is.without is.cells is.commits

-- cells in the files from 9 on, where only others changed
pub moved_cells : (old new : Files) (row : Row) → ((j : ℕ) → 9 ≤ j → new j ≡ old j)
    → ((x : Image) → IsImage old x → (file index : ℕ) → row.cells file index ≡ cells_of_files x file index)
    → (x : Image) → IsImage new x → (file index : ℕ) → row.cells file index ≡ cells_of_files x file index
moved_cells old new row same cells x image file index =
    cells (cells_only old new x image same) (only_image old new x image same) file index
    ∙ ap (λ (c : Content). c file index) (only_cells old new x image same)

module _ (old new : Files) (file : ℕ) (g : GateSlot) (row : Row) (m : IsLogFile file) (is : IsReady old g row) (others : (j : ℕ) → (j ≡ file → ⊥) → new j ≡ old j) where
  not_gate : gate_file ≡ file → ⊥
  not_gate e = let low = m.0 in omega (arith, low, e)

  not_cells : (j : ℕ) → 9 ≤ j → j ≡ file → ⊥
  not_cells j high e = let low = m.1 in omega (arith, low, high, e)

  at_gate : new gate_file ≡ old gate_file
  at_gate = others gate_file not_gate

  gate_now : IsKeptGate (new gate_file) g
  gate_now = subst (λ (s : FileState). IsKeptGate s g) (sym at_gate) is.gate

  without_now : IsWithoutNumber (new file) (g.number + 1) → (j : ℕ) → IsLogFile j → IsWithoutNumber (new j) (g.number + 1)
  without_now here j mj = ⊎_elim
      (λ e. subst (λ k. IsWithoutNumber (new k) (g.number + 1)) (sym e) here)
      (λ ne. subst (λ (s : FileState). IsWithoutNumber s (g.number + 1)) (sym (others j ne)) (is.without j mj))
      (cases_eq j file)

  cells_now : (x : Image) → IsImage new x → (f index : ℕ) → row.cells f index ≡ cells_of_files x f index
  cells_now = moved_cells old new row (λ j high. others j (not_cells j high)) is.cells

  -- while the cut isn't synced
  pub cut_recovers : (new file).kept ≡ (old file).kept → (new file).since ≡ (old file).since ++ step.Cut ∷ [] → Recovers new row
  cut_recovers kept since = passed_recovers new g row gate_now
      (without_now (cut_without (old file) (new file) (g.number + 1) (is.settled file (inl (m.1))) (is.without file m) kept since)) cells_now is.commits

  -- and once it is
  pub cut_ready : IsEmptyFile (new file) → IsReady new g row
  cut_ready empty = record {
    gate = gate_now;
    gate_read = ap (λ (s : FileState). s.read) at_gate ∙ is.gate_read ∙ ap (λ (s : FileState). s.kept) (sym at_gate);
    settled = λ j store. ⊎_elim
        (λ e. subst (λ k. IsSynced (new k)) (sym e) (record { kept = empty.kept ∙ sym empty.read; since = empty.since }))
        (λ ne. settled_same (old j) (new j) (others j ne) (is.settled j store))
        (cases_eq j file);
    without = without_now (empty_without (new file) (g.number + 1) empty);
    cells = cells_now;
    commits = is.commits;
  }

pub begun_recovers : (old new : Files) (file : ℕ) (g : GateSlot) (row : Row) → IsLogFile file → IsReady old g row → Begins file step.Cut old new → Recovers new row
begun_recovers old new file g row m is begun = cut_recovers old new file g row m is begun.others begun.kept begun.since

pub may_recovers : (old new : Files) (file : ℕ) (g : GateSlot) (row : Row) → IsLogFile file → IsReady old g row → MayBegin file step.Cut old new → Recovers new row
may_recovers old new file g row m is may = ⊎_elim
    (λ begun. begun_recovers old new file g row m is begun)
    (λ e. subst (λ (fs : Files). Recovers fs row) (sym e) (ready_recovers old g row is))
    may

pub cut_empty : (old mid new : Files) (file : ℕ) → (mid file).read ≡ done (old file).read step.Cut → Settles file mid new → IsEmptyFile (new file)
cut_empty old mid new file written settles = record { read = settles.read ∙ written; kept = settles.kept ∙ written; since = settles.since }

pub cut_others : (old mid new : Files) (file : ℕ) → Begins file step.Cut old mid → Settles file mid new → (j : ℕ) → (j ≡ file → ⊥) → new j ≡ old j
cut_others old mid new file begun settles j ne = settles.others j ne ∙ begun.others j ne

pub cleared_ready : (old mid new : Files) (file : ℕ) (g : GateSlot) (row : Row) → IsLogFile file → IsReady old g row → Begins file step.Cut old mid
    → (mid file).read ≡ done (old file).read step.Cut → Settles file mid new → IsReady new g row
cleared_ready old mid new file g row m is begun written settles = cut_ready old new file g row m is (cut_others old mid new file begun settles) (cut_empty old mid new file written settles)
