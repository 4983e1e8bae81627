-- What the write of a gate makes of a log, and of its safety at each moment.
use Rattle.std.proofs.Common.{◌≡◌, ◌≢◌, ⊎_elim, ℕ, ◌+◌, ◌≤◌, List, length, sym, ◌∙◌, ap, subst, arith, length-append}
use Rattle.std.specs.Prelude.{Bool, IsTrue, slice_index}
use Rattle.pdb_disk.specs.Files.{FileBytes, FileState, Files, Begins, MayBegin, Settles, Elapses, done}
use Rattle.pdb_disk.specs.Files.{Step as step}
use Rattle.pdb_disk.specs.Moments.{Moments}
use Rattle.pdb_disk.proofs.Calls.{one_call}
use Rattle.pdb_model.specs.Gates.{gate_bytes}
use Rattle.pdb_model.specs.Logs.{IsGate, IsLogFile, gate_file}
use Rattle.pdb_model.specs.Records.{Record}
use Rattle.pdb_model.specs.Recovery.{Row, Safe}
use Rattle.pdb_model.specs.declared.gate_slot.GateSlot.{GateSlot}
use Rattle.pdb_log.specs.Ledger.{IsNextGate, IsSegment, Ledger, passed, records_of}
use Rattle.pdb_log.specs.Standing.{IsLog}
use Rattle.pdb_log.specs.declared.log.Log.{Log}
use Rattle.pdb_log.specs.declared.ring_file.RingFile.{RingFile}
use Rattle.pdb_log.proofs.Gates.{Fits, either_in, gate_written, place_of}
use Rattle.pdb_log.proofs.Images.{either_safe}
use Rattle.pdb_log.proofs.Ledgers.{not_gate, same_stands}
use Rattle.pdb_log.proofs.Passing.{passed_stands}
use Rattle.pdb_log.proofs.Logs.{kept_within, safe_now}
use Rattle.pdb_log.proofs.Rows.{same_rows}

not_zero : (j : ℕ) → 9 ≤ j → j ≢ gate_file
not_zero j high e = omega (arith, high, e)

module _ {D : Type 0} (tells : D → Bool) (clock : D → ℕ) (past : D → ℕ → Files) (log : Log D) (g : GateSlot) (dropped flushed : List Record) (l : Ledger) (rows : List Row) (f : ℕ)
    (fits : Fits g) (is : IsLog tells clock past log l rows f) (next : IsNextGate rows f (past log.disk (clock log.disk)) l g dropped flushed) where
  abbrev now_of : D → Files
  now_of d = past d (clock d)

  -- while the slot isn't synced
  pub gate_mid : (mid : D) → Begins gate_file (step.Write (place_of g) (gate_bytes g)) (past log.disk (clock log.disk)) (past mid (clock mid)) → Safe rows f (past mid (clock mid))
  gate_mid mid begun =
      let logs = λ (j : ℕ) (m : IsLogFile j). begun.others j (λ e. not_gate j m (sym e)) in
      let cells = λ (j : ℕ) (high : 9 ≤ j). begun.others j (not_zero j high) in
      either_safe rows f (now_of mid) l (passed l g flushed)
      (same_stands (now_of log.disk) (now_of mid) l logs is.stands)
      (kept_within tells clock past log l rows f is)
      (same_rows rows f (now_of log.disk) (now_of mid) l cells is.are)
      (same_stands (now_of log.disk) (now_of mid) (passed l g flushed) logs (passed_stands rows f (now_of log.disk) l g dropped flushed is.stands next))
      (kept_within tells clock past log l rows f is)
      (same_rows rows f (now_of log.disk) (now_of mid) (passed l g flushed) cells next.are)
      (either_in (now_of log.disk gate_file) (now_of mid gate_file) l.gate g is.gate fits next.sequence begun.kept begun.since)

  pub gate_write_moments : (mid : D) → Elapses (clock log.disk) (clock mid) (past log.disk) (past mid)
      → (IsTrue (tells log.disk) → MayBegin gate_file (step.Write (place_of g) (gate_bytes g)) (past log.disk (clock log.disk)) (past mid (clock mid)))
      → Moments (clock log.disk) (clock mid) (past log.disk) (past mid) (Safe rows f)
  gate_write_moments mid time begins = one_call (clock log.disk) (clock mid) (past log.disk) (past mid) (Safe rows f) time (safe_now tells clock past log l rows f is)
      (⊎_elim (gate_mid mid) (λ same. subst (Safe rows f) (sym same) (safe_now tells clock past log l rows f is)) (begins is.told))

  pub gate_log : (mid : D) (new : Log D) → new.gate ≡ g → new.file ≡ log.file → new.number ≡ log.number → new.ends ≡ log.ends → new.synced ≡ log.synced → new.last ≡ log.last
      → IsTrue (tells new.disk) → Begins gate_file (step.Write (place_of g) (gate_bytes g)) (past log.disk (clock log.disk)) (past mid (clock mid))
      → (past mid (clock mid) gate_file).read ≡ done (past log.disk (clock log.disk) gate_file).read (step.Write (place_of g) (gate_bytes g))
      → Settles gate_file (past mid (clock mid)) (past new.disk (clock new.disk))
      → IsLog tells clock past new (passed l g flushed) rows f
  gate_log mid new gate ring number ends synced lasts told begun written settles = record {
    told = told;
    stands = same_stands (now_of log.disk) (now_of new.disk) (passed l g flushed) logs (passed_stands rows f (now_of log.disk) l g dropped flushed is.stands next);
    gate = record {
      whole = subst (λ (c : FileBytes). IsGate c g) (sym bytes_now) (gate_written (now_of log.disk gate_file).kept l.gate g is.gate.whole fits next.sequence);
      synced = settles.since;
    };
    gate_read = settles.read ∙ sym settles.kept;
    segments = λ j m. subst (λ (s : FileState). IsSegment s (l.segments j)) (sym (logs j m)) (is.segments j m);
    are = same_rows rows f (now_of log.disk) (now_of new.disk) (passed l g flushed) (λ j high. others j (not_zero j high)) next.are;
    len = is.len;
    read = λ j m. ap (λ (s : FileState). s.read) (logs j m) ∙ is.read j m;
    gate_is = gate;
    ends = λ j m. ap (λ xs. slice_index xs j) ends ∙ is.ends j m;
    within = is.within;
    synced = λ j m. ap (λ xs. slice_index xs j) synced ∙ is.synced j m;
    lasts = λ j m. ap (λ xs. slice_index xs j + 1) lasts ∙ is.lasts j m;
    unflushed = is.unflushed;
    in_file = ap (λ n. n + 1) number ∙ is.in_file ∙ ap (λ (t : RingFile). (l.segments t.number).first + length (records_of (l.segments t.number))) (sym ring);
    in_log =
        let p = length-append l.flushed l.rest in let q = length-append flushed l.rest in let s = length-append dropped flushed in
        let t = ap length next.parts in let n = next.number in let k = is.in_log in
        omega (arith, p, q, s, t, n, k, number);
  }
    where
      others : (j : ℕ) → j ≢ gate_file → now_of new.disk j ≡ now_of log.disk j
      others j ne = settles.others j ne ∙ begun.others j ne

      logs : (j : ℕ) → IsLogFile j → now_of new.disk j ≡ now_of log.disk j
      logs j m = others j (λ e. not_gate j m (sym e))

      bytes_now : (now_of new.disk gate_file).kept ≡ done (now_of log.disk gate_file).kept (step.Write (place_of g) (gate_bytes g))
      bytes_now = settles.kept ∙ written ∙ ap (λ (c : FileBytes). done c (step.Write (place_of g) (gate_bytes g))) is.gate_read
