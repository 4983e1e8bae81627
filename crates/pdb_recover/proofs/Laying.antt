-- The cells of records that recovery takes, while they are written.
use Rattle.std.proofs.Common.{◌≡◌, inl, ⊎_elim, ℕ, ◌+◌, ◌*◌, ◌≤◌, List, [], ◌∷◌, length, sym, ◌∙◌, ap, subst, arith}
use Rattle.std.specs.Prelude.{Any, Contains, None, Some}
use Rattle.pdb_cells.specs.Content.{Content}
use Rattle.pdb_cells.specs.Puts.{laid}
use Rattle.pdb_cells.specs.Sizes.{size_of}
use Rattle.pdb_cells.specs.declared.Put.{Put}
use Rattle.pdb_cells.proofs.Sizes.{no_cells}
use Rattle.pdb_disk.specs.Files.{Begins, FileBytes, FileState, Files, Image, IsImage, MayBegin, Step, reads_of}
use Rattle.pdb_disk.specs.Files.{Step as step}
use Rattle.pdb_model.specs.Logs.{AreRecovered, IsFound, IsGate, IsLogFile, IsScanned, gate_file}
use Rattle.pdb_model.specs.Records.{Record}
use Rattle.pdb_model.specs.Recovery.{Laid, Row, cells_of_files, laid_over}
use Rattle.pdb_model.specs.declared.gate_slot.GateSlot.{GateSlot}
use Rattle.pdb_log.proofs.Beside.{laid_same}
use Rattle.pdb_log.proofs.Cells.{before, before_beside, before_image}
use Rattle.pdb_recover.specs.Recovering.{AreSettled, LaysSame, IsLaying, Recovers}
use Rattle.pdb_recover.proofs.Settled.{cells_settled, settled_image, settled_same}
use Rattle.pdb_recover.proofs.Syncing.{SyncedBelow, image_before, synced_or_same}

found_same : (x y : Image) (r : Record) → ((j : ℕ) → IsLogFile j → y j ≡ x j) → IsFound x r → IsFound y r
found_same x y r same h = record {
  file = h.file;
  is_log = h.is_log;
  scanned = subst (λ (c : FileBytes). IsScanned c r) (sym (same h.file h.is_log)) h.scanned;
  lowest = λ j s m less scan number. h.lowest j s m less (subst (λ (c : FileBytes). IsScanned c s) (same j m) scan) number;
}

-- only the log files say what recovery takes
pub recovered_same : (x y : Image) (n : ℕ) (rs : List Record) → ((j : ℕ) → IsLogFile j → y j ≡ x j) → AreRecovered x n rs → AreRecovered y n rs
recovered_same x y n [] same h = λ r found number. h r (found_same y x r (λ j m. sym (same j m)) found) number
recovered_same x y n (r ∷ rs) same h = (found_same x y r same h.0, h.1, recovered_same x y (n + 1) rs same h.2)

pub laying_recovers : (fs : Files) (row : Row) (g : GateSlot) (taken : List Record) → IsLaying fs row g taken → Recovers fs row
laying_recovers fs row g taken is x image clear = record {
  gate = g;
  is_gate = subst (λ (c : FileBytes). IsGate c g) (sym (same gate_file (omega arith))) is.gate;
  taken = taken;
  are_taken = recovered_same (reads_of fs) x g.number taken (λ j m. same j m.1) is.are_taken;
  cells = is.cells x image;
  commits = is.commits;
}
  where
    same : (j : ℕ) → j ≤ 4 → x j ≡ (fs j).read
    same j low = settled_image (fs j) (x j) (is.logs j low) (image j)

-- nothing is written yet
pub laying_begun : (fs : Files) (row : Row) (h : Laid (reads_of fs) row) → AreSettled fs → IsLaying fs row h.gate h.taken
laying_begun fs row h are = record {
  logs = λ j low. are j (inl low);
  gate = h.is_gate;
  are_taken = h.are_taken;
  commits = h.commits;
  cells = λ x image file index. h.cells file index ∙ ap (λ (c : Content). laid_over h.taken c file index) (sym (cells_settled fs x are image));
}

-- the same gate and log files
still_laying : (old new : Files) (row : Row) (g : GateSlot) (taken : List Record) → ((j : ℕ) → j ≤ 4 → new j ≡ old j)
    → ((x : Image) → IsImage new x → (file index : ℕ) → row.cells file index ≡ laid_over taken (cells_of_files x) file index) → IsLaying old row g taken → IsLaying new row g taken
still_laying old new row g taken same cells is = record {
  logs = λ j low. settled_same (old j) (new j) (same j low) (is.logs j low);
  gate = subst (λ (s : FileState). IsGate s.read g) (sym (same gate_file (omega arith))) is.gate;
  are_taken = recovered_same (reads_of old) (reads_of new) g.number taken (λ j m. ap (λ (s : FileState). s.read) (same j m.1)) is.are_taken;
  commits = is.commits;
  cells = cells;
}

-- a file with cells is no log file
pub not_low : (j n : ℕ) → size_of j ≡ Some n → j ≤ 4 → ⊥
not_low j n sized low = let none : size_of j ≡ None = no_cells j (inl (omega (arith, low), (λ e. omega (arith, low, e)))) in cc

contained : (puts : List Put) (p : Put) → Any (λ q. q ≡ p) puts → Contains puts p
contained puts p h = subst (Contains puts) h.4 (h.0, h.2, h.3)

pub wrote : (p : Put) (n : ℕ) (bytes : List ℕ) → n ≡ length p.bytes → bytes ≡ p.bytes
    → step.Write (p.name.index * n) bytes ≡ step.Write (p.name.index * length p.bytes) p.bytes
wrote p n bytes len same = λ i. step.Write (p.name.index * len i) (same i)

-- while a covered cell is written
pub cell_laying : (old new : Files) (row : Row) (g : GateSlot) (taken : List Record) (puts : List Put) (p : Put) → size_of p.name.file ≡ Some (length p.bytes)
    → LaysSame puts taken → Any (λ q. q ≡ p) puts → IsLaying old row g taken
    → Begins p.name.file (step.Write (p.name.index * length p.bytes) p.bytes) old new → IsLaying new row g taken
cell_laying old new row g taken puts p sized covers has is begun =
    still_laying old new row g taken (λ j low. begun.others j (λ e. not_low j (length p.bytes) (ap size_of e ∙ sized) low)) cells is
  where
    r : Record
    r = record { number = 0; commits = 0; puts = puts }

    cells : (x : Image) → IsImage new x → (file index : ℕ) → row.cells file index ≡ laid_over taken (cells_of_files x) file index
    cells x image file index =
        let was : Image = before old new p sized x image begun in
        let same : laid puts (cells_of_files was) ≡ laid puts (cells_of_files x) =
        laid_same (r ∷ []) r p (cells_of_files was) (cells_of_files x) (inl (λ i. r)) (contained puts p has) (before_beside old new p sized x image begun) in
        is.cells was (before_image old new p sized x image begun) file index
        ∙ sym (covers (cells_of_files was) file index)
        ∙ ap (λ (c : Content). c file index) same
        ∙ covers (cells_of_files x) file index

-- the same of the bytes that the call was given, answered or failed
pub may_laying : (old new : Files) (row : Row) (g : GateSlot) (taken : List Record) (puts : List Put) (p : Put) (n : ℕ) (bytes : List ℕ) → n ≡ length p.bytes → bytes ≡ p.bytes
    → size_of p.name.file ≡ Some (length p.bytes) → LaysSame puts taken → Any (λ q. q ≡ p) puts → IsLaying old row g taken
    → MayBegin p.name.file (step.Write (p.name.index * n) bytes) old new → IsLaying new row g taken
may_laying old new row g taken puts p n bytes len same sized covers has is may = ⊎_elim
    (λ begun. cell_laying old new row g taken puts p sized covers has is begun)
    (λ e. subst (λ (fs : Files). IsLaying fs row g taken) (sym e) is)
    (subst (λ (s : Step). MayBegin p.name.file s old new) (wrote p n bytes len same) may)

-- while written files are synced
pub synced_laying : (P : ℕ → Type 0) (n : ℕ) (old new : Files) (row : Row) (g : GateSlot) (taken : List Record) → IsImage old (reads_of old)
    → SyncedBelow P n old new → IsLaying old row g taken → IsLaying new row g taken
synced_laying P n old new row g taken reads h is = record {
  logs = λ j low. ⊎_elim (λ s. s) (λ e. settled_same (old j) (new j) e (is.logs j low)) (synced_or_same P n old new h j);
  gate = subst (λ (c : FileBytes). IsGate c g) (sym (h.reads gate_file)) is.gate;
  are_taken = recovered_same (reads_of old) (reads_of new) g.number taken (λ j m. h.reads j) is.are_taken;
  commits = is.commits;
  cells = λ x image. is.cells x (image_before P n old new h x reads image);
}
