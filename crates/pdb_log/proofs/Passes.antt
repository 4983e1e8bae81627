-- What the calls for cells make of a log, and of its safety at each moment.
use Rattle.std.proofs.Common.{◌≡◌, ⊎_elim, ℕ, ◌+◌, ◌*◌, ◌≤◌, ◌<◌, List, ◌++◌, length, sym, ◌∙◌, ap, subst, arith, inl, inr}
use Rattle.std.specs.Prelude.{Bool, IsTrue, Contains, Some, slice_index}
use Rattle.std.proofs.lemmas.List.Elements.{All-contains, Contains-append_left}
use Rattle.pdb_cells.specs.Puts.{IsWholeCell}
use Rattle.pdb_cells.specs.Sizes.{size_of}
use Rattle.pdb_cells.specs.declared.Put.{Put}
use Rattle.pdb_disk.specs.Files.{FileState, Files, Begins, MayBegin, Settles, Elapses, IsImage, reads_of}
use Rattle.pdb_disk.specs.Files.{Step as step}
use Rattle.pdb_disk.specs.Moments.{Moments}
use Rattle.pdb_disk.proofs.Calls.{one_call}
use Rattle.pdb_model.specs.Logs.{gate_file}
use Rattle.pdb_model.specs.Records.{Record}
use Rattle.pdb_model.specs.Recovery.{Row, Safe}
use Rattle.pdb_log.specs.Ledger.{AreRows, IsKeptGate, IsSegment, Ledger, records_of}
use Rattle.pdb_log.specs.Standing.{IsCellAt, IsLog}
use Rattle.pdb_log.specs.declared.log.Log.{Log}
use Rattle.pdb_log.specs.declared.ring_file.RingFile.{RingFile}
use Rattle.pdb_log.proofs.Cells.{cell_rows, synced_rows}
use Rattle.pdb_log.proofs.Ledgers.{same_stands}
use Rattle.pdb_log.proofs.Logs.{begun_as, safe_now}
use Rattle.pdb_log.proofs.Members.{member_is}

-- a put of a record of the log is of a whole cell
pub put_sized : {D : Type 0} (tells : D → Bool) (clock : D → ℕ) (past : D → ℕ → Files) (log : Log D) (l : Ledger) (rows : List Row) (f : ℕ) (r : Record) (p : Put) → IsLog tells clock past log l rows f → Contains l.flushed r → Contains r.puts p → size_of p.name.file ≡ Some (length p.bytes)
put_sized tells clock past log l rows f r p is flushed has =
    let good = member_is (l.gate.number + 1) (l.flushed ++ l.rest) r is.stands.numbers (Contains-append_left l.flushed l.rest r flushed) in
    let whole : IsWholeCell p = All-contains IsWholeCell r.puts p good.whole has in
    whole.0

-- the write of a put's cell, where it is this one
pub cell_begun : (p : Put) (file at : ℕ) (bytes : List ℕ) (old new : Files) → p.name.file ≡ file → p.name.index * length p.bytes ≡ at → p.bytes ≡ bytes
    → Begins file (step.Write at bytes) old new → Begins p.name.file (step.Write (p.name.index * length p.bytes) p.bytes) old new
cell_begun p file at bytes old new here place same begun =
    subst (λ n. Begins n (step.Write (p.name.index * length p.bytes) p.bytes) old new) (sym here)
    (subst (λ n. Begins file (step.Write n p.bytes) old new) (sym place) (begun_as file at bytes p.bytes old new (sym same) begun))

module _ {D : Type 0} (tells : D → Bool) (clock : D → ℕ) (past : D → ℕ → Files) where
  abbrev now_of : D → Files
  now_of d = past d (clock d)

  -- the same log over files of which only those from 9 on have changed
  pub cells_log : (log new : Log D) (l : Ledger) (rows : List Row) (f : ℕ) → IsLog tells clock past log l rows f
      → new.gate ≡ log.gate → new.file ≡ log.file → new.number ≡ log.number → new.ends ≡ log.ends → new.synced ≡ log.synced → new.last ≡ log.last
      → IsTrue (tells new.disk) → ((j : ℕ) → j < 9 → past new.disk (clock new.disk) j ≡ past log.disk (clock log.disk) j) → AreRows rows f (past new.disk (clock new.disk)) l → IsLog tells clock past new l rows f
  cells_log log new l rows f is gate ring number ends synced lasts told same are = record {
    told = told;
    stands = same_stands (now_of log.disk) (now_of new.disk) l (λ j m. same j (let p = m.1 in omega (arith, p))) is.stands;
    gate = subst (λ (s : FileState). IsKeptGate s l.gate) (sym (same gate_file (omega arith))) is.gate;
    gate_read = let e = same gate_file (omega arith) in ap (λ (s : FileState). s.read) e ∙ is.gate_read ∙ ap (λ (s : FileState). s.kept) (sym e);
    segments = λ j m. subst (λ (s : FileState). IsSegment s (l.segments j)) (sym (same j (let p = m.1 in omega (arith, p)))) (is.segments j m);
    are = are;
    len = is.len;
    read = λ j m. ap (λ (s : FileState). s.read) (same j (let p = m.1 in omega (arith, p))) ∙ is.read j m;
    gate_is = gate ∙ is.gate_is;
    ends = λ j m. ap (λ xs. slice_index xs j) ends ∙ is.ends j m;
    within = is.within;
    synced = λ j m. ap (λ xs. slice_index xs j) synced ∙ is.synced j m;
    lasts = λ j m. ap (λ xs. slice_index xs j + 1) lasts ∙ is.lasts j m;
    unflushed = is.unflushed;
    in_file = ap (λ n. n + 1) number ∙ is.in_file ∙ ap (λ (t : RingFile). (l.segments t.number).first + length (records_of (l.segments t.number))) (sym ring);
    in_log = number ∙ is.in_log;
  }

  -- a write of a put's cell, answered or failed
  pub cell_log : (log new : Log D) (l : Ledger) (rows : List Row) (f : ℕ) (r : Record) (p : Put) → IsLog tells clock past log l rows f → Contains l.flushed r → Contains r.puts p → 9 ≤ p.name.file
      → new.gate ≡ log.gate → new.file ≡ log.file → new.number ≡ log.number → new.ends ≡ log.ends → new.synced ≡ log.synced → new.last ≡ log.last → IsTrue (tells new.disk)
      → MayBegin p.name.file (step.Write (p.name.index * length p.bytes) p.bytes) (past log.disk (clock log.disk)) (past new.disk (clock new.disk)) → IsLog tells clock past new l rows f
  cell_log log new l rows f r p is flushed has high gate ring number ends synced lasts told may = ⊎_elim
      (λ begun. cells_log log new l rows f is gate ring number ends synced lasts told
      (λ j low. begun.others j (λ e. omega (arith, low, e, high)))
      (cell_rows rows f (now_of log.disk) (now_of new.disk) l r p (put_sized tells clock past log l rows f r p is flushed has) flushed has begun is.are))
      (λ same. cells_log log new l rows f is gate ring number ends synced lasts told
      (λ j low. ap (λ (fs : Files). fs j) same) (subst (λ fs. AreRows rows f fs l) (sym same) is.are))
      may

  -- a sync of a file of cells
  pub cells_synced_log : (log new : Log D) (l : Ledger) (rows : List Row) (f file : ℕ) → IsLog tells clock past log l rows f → 9 ≤ file
      → new.gate ≡ log.gate → new.file ≡ log.file → new.number ≡ log.number → new.ends ≡ log.ends → new.synced ≡ log.synced → new.last ≡ log.last → IsTrue (tells new.disk)
      → IsImage (past log.disk (clock log.disk)) (reads_of (past log.disk (clock log.disk))) → Settles file (past log.disk (clock log.disk)) (past new.disk (clock new.disk)) → IsLog tells clock past new l rows f
  cells_synced_log log new l rows f file is high gate ring number ends synced lasts told reads settles =
      cells_log log new l rows f is gate ring number ends synced lasts told
      (λ j low. settles.others j (λ e. omega (arith, low, e, high)))
      (synced_rows rows f (now_of log.disk) (now_of new.disk) l file reads settles is.are)

  -- the same files
  pub same_log : (log new : Log D) (l : Ledger) (rows : List Row) (f : ℕ) → IsLog tells clock past log l rows f
      → new.gate ≡ log.gate → new.file ≡ log.file → new.number ≡ log.number → new.ends ≡ log.ends → new.synced ≡ log.synced → new.last ≡ log.last
      → IsTrue (tells new.disk) → past new.disk (clock new.disk) ≡ past log.disk (clock log.disk) → IsLog tells clock past new l rows f
  same_log log new l rows f is gate ring number ends synced lasts told same =
      cells_log log new l rows f is gate ring number ends synced lasts told (λ j low. ap (λ (fs : Files). fs j) same) (subst (λ fs. AreRows rows f fs l) (sym same) is.are)

  -- after a read
  pub read_log : (log new : Log D) (l : Ledger) (rows : List Row) (f : ℕ) → IsLog tells clock past log l rows f
      → new.gate ≡ log.gate → new.file ≡ log.file → new.number ≡ log.number → new.ends ≡ log.ends → new.synced ≡ log.synced → new.last ≡ log.last
      → IsTrue (tells new.disk) → clock new.disk ≡ clock log.disk → past new.disk ≡ past log.disk → IsLog tells clock past new l rows f
  read_log log new l rows f is gate ring number ends synced lasts told time unchanged =
      same_log log new l rows f is gate ring number ends synced lasts told (ap (past new.disk) time ∙ ap (λ (h : ℕ → Files). h (clock log.disk)) unchanged)

  -- a write of bytes that are a put's cell
  pub put_log : (log new : Log D) (l : Ledger) (rows : List Row) (f : ℕ) (r : Record) (p : Put) (file at : ℕ) (bytes : List ℕ) → IsLog tells clock past log l rows f → Contains l.flushed r → Contains r.puts p → 9 ≤ file → IsCellAt p file at bytes
      → new.gate ≡ log.gate → new.file ≡ log.file → new.number ≡ log.number → new.ends ≡ log.ends → new.synced ≡ log.synced → new.last ≡ log.last → IsTrue (tells new.disk)
      → MayBegin file (step.Write at bytes) (past log.disk (clock log.disk)) (past new.disk (clock new.disk)) → IsLog tells clock past new l rows f
  put_log log new l rows f r p file at bytes is flushed has high cell gate ring number ends synced lasts told may =
      cell_log log new l rows f r p is flushed has (let e = cell.here in omega (arith, e, high)) gate ring number ends synced lasts told
      (⊎_elim (λ begun. inl (cell_begun p file at bytes (now_of log.disk) (now_of new.disk) cell.here cell.place cell.same begun)) (λ same. inr same) may)

  -- one call between two logs for the same rows
  pub log_moments : (log new : Log D) (l m : Ledger) (rows : List Row) (f : ℕ) → IsLog tells clock past log l rows f → IsLog tells clock past new m rows f → Elapses (clock log.disk) (clock new.disk) (past log.disk) (past new.disk)
      → Moments (clock log.disk) (clock new.disk) (past log.disk) (past new.disk) (Safe rows f)
  log_moments log new l m rows f is then time = one_call (clock log.disk) (clock new.disk) (past log.disk) (past new.disk) (Safe rows f) time (safe_now tells clock past log l rows f is) (safe_now tells clock past new m rows f then)
