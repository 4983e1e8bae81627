-- What is pending while it is passed.
use Rattle.std.proofs.Common.{◌≡◌, inl, ℕ, ◌+◌, ◌≤◌, List, [], ◌∷◌, length, refl, sym, ◌∙◌, ap, subst, arith}
use Rattle.pdb_cells.specs.declared.Put.{Put}
use Rattle.pdb_disk.specs.Files.{FileBytes, Files, Image, reads_of}
use Rattle.pdb_disk.specs.Moments.{Moments}
use Rattle.pdb_disk.proofs.Calls.{weaker}
use Rattle.pdb_model.specs.Logs.{AreRecovered, IsGate, IsScanned, gate_file}
use Rattle.pdb_model.specs.Records.{Record}
use Rattle.pdb_model.specs.Recovery.{Laid, Row, cells_of_files, commits_after, laid_over}
use Rattle.pdb_model.specs.declared.gate_slot.GateSlot.{GateSlot}
use Rattle.pdb_recover.specs.Recovering.{AreSettled, AreCellsWritten, LaysSame, IsBeforeGate, IsLaying, IsReady, IsSynced, Recovers}
use Rattle.pdb_recover.specs.Scanning.{IsPending}
use Rattle.pdb_recover.specs.declared.pending_puts.Pending.{Pending}
use Rattle.pdb_recover.proofs.Laying.{laying_begun, laying_recovers}
use Rattle.pdb_recover.proofs.Settled.{settled_image}
use Rattle.pdb_recover.proofs.Taking.{none_left, none_scanned, one_gate, one_taken}

nothing : (rs : List Record) → length rs ≤ 0 → rs ≡ []
nothing [] l = refl
nothing (r ∷ rs) l = absurd (omega (arith, l))

-- the gate that passes what is pending
abbrev pub passing_gate : Pending → GateSlot
passing_gate p = record { sequence = p.gate.sequence + 1; number = p.number; commits = p.commits }

-- the row is what is pending over the cells
record IsPendingRow (x : Image) (row : Row) (p : Pending) (is : IsPending x p) : Type 0 where
  cells : (file index : ℕ) → row.cells file index ≡ laid_over is.taken (cells_of_files x) file index
  commits : row.commits ≡ commits_after p.gate.commits is.taken

pending_laid : (x : Image) (row : Row) (p : Pending) → (is : IsPending x p) → Laid x row → IsPendingRow x row p is
pending_laid x row p is h = record {
  cells = λ file index. h.cells file index ∙ ap (λ (rs : List Record). laid_over rs (cells_of_files x) file index) same_taken;
  commits = h.commits ∙ ap (λ (g : GateSlot). commits_after g.commits h.taken) same_gate ∙ ap (commits_after p.gate.commits) same_taken;
}
  where
    same_gate : h.gate ≡ p.gate
    same_gate = one_gate (x gate_file) h.gate p.gate h.is_gate is.gate

    same_taken : h.taken ≡ is.taken
    same_taken = one_taken x p.gate.number h.taken is.taken (subst (λ (g : GateSlot). AreRecovered x g.number h.taken) same_gate h.are_taken) is.are_taken

module _ (fs : Files) (row : Row) (p : Pending) (are : AreSettled fs) (is : IsPending (reads_of fs) p) (h : Laid (reads_of fs) row) where
  at_gate : IsSynced (fs gate_file)
  at_gate = are gate_file (inl (omega arith))

  pub pending_laying : IsLaying fs row p.gate is.taken
  pending_laying =
      let same = pending_laid (reads_of fs) row p is h in
      laying_begun fs row (record { gate = p.gate; is_gate = is.gate; taken = is.taken; are_taken = is.are_taken; cells = same.cells; commits = same.commits }) are

  pub pending_recovers : Recovers fs row
  pending_recovers = laying_recovers fs row p.gate is.taken pending_laying

  -- where no record was taken
  pub pending_ready : p.number ≤ p.gate.number → IsReady fs p.gate row
  pending_ready low =
      let number = is.number in
      let none : is.taken ≡ [] = nothing is.taken (omega (arith, low, number)) in
      let left : AreRecovered (reads_of fs) p.gate.number [] = subst (AreRecovered (reads_of fs) p.gate.number) none is.are_taken in
      record {
        gate = record { whole = subst (λ (c : FileBytes). IsGate c p.gate) (sym at_gate.kept) is.gate; synced = at_gate.since };
        gate_read = sym at_gate.kept;
        settled = are;
        without = λ j m c image clear r scan number. none_scanned (reads_of fs) p.gate.number left j r m
            (subst (λ (d : FileBytes). IsScanned d r) (settled_image (fs j) c (are j (inl m.1)) image) scan) number;
        cells = λ x image file index. pending_laying.cells x image file index ∙ ap (λ (rs : List Record). laid_over rs (cells_of_files x) file index) none;
        commits = pending_laying.commits ∙ ap (commits_after p.gate.commits) none;
      }

  -- once the cells are written and synced
  pub pending_written : (mid new : Files) → AreCellsWritten p.puts fs mid → reads_of new ≡ reads_of mid → AreSettled new → IsLaying new row p.gate is.taken
      → IsBeforeGate new row p.gate is.taken (passing_gate p)
  pending_written mid new written read settled laying = record {
    settled = settled;
    laying = laying;
    sequence = refl;
    cells = λ file index.
        (pending_laid (reads_of fs) row p is h).cells file index
        ∙ sym (is.cells (cells_of_files (reads_of fs)) file index)
        ∙ sym (written.cells file index)
        ∙ sym (ap (λ (x : Image). cells_of_files x file index) read);
    commits = (pending_laid (reads_of fs) row p is h).commits ∙ sym is.commits;
    last = λ j r m scan number. none_scanned (reads_of new) p.number (none_left (reads_of new) p.gate.number p.number is.taken is.number laying.are_taken) j r m scan number;
  }

-- the puts that a call was given
pub given_covers : (x : Image) (p : Pending) (puts : List Put) → puts ≡ p.puts → (is : IsPending x p) → LaysSame puts is.taken
given_covers x p puts same is = subst (λ (ps : List Put). LaysSame ps is.taken) (sym same) is.cells

pub given_written : (puts ps : List Put) (old new : Files) → puts ≡ ps → AreCellsWritten puts old new → AreCellsWritten ps old new
given_written puts ps old new same written = subst (λ (qs : List Put). AreCellsWritten qs old new) same written

pub laying_moments : (before now : ℕ) (past since : ℕ → Files) (row : Row) (g : GateSlot) (taken : List Record)
    → Moments before now past since (λ fs. IsLaying fs row g taken) → Moments before now past since (λ fs. Recovers fs row)
laying_moments before now past since row g taken h =
    weaker before now past since (λ fs. IsLaying fs row g taken) (λ fs. Recovers fs row) h (λ fs is. laying_recovers fs row g taken is)
