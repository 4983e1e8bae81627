-- What the cut of a log file makes of a log, and of its safety at each moment.
use Rattle.std.proofs.Common.{◌≡◌, ◌≢◌, inl, ⊎_elim, ℕ, ◌+◌, ◌≤◌, List, [], length, refl, sym, ◌∙◌, ap, subst, arith}
use Rattle.std.specs.Prelude.{Bool, IsTrue, Contains, slice_index}
use Rattle.pdb_disk.specs.Files.{FileState, Files, Begins, MayBegin, Settles, Elapses, done}
use Rattle.pdb_disk.specs.Files.{Step as step}
use Rattle.pdb_disk.specs.Moments.{Moments}
use Rattle.pdb_disk.proofs.Calls.{one_call}
use Rattle.pdb_model.specs.Logs.{IsLogFile, gate_file, most_in_log}
use Rattle.pdb_model.specs.Recovery.{Row, Safe}
use Rattle.pdb_log.specs.Ledger.{IsKeptGate, IsPassed, IsSegment, Ledger, Segment, StandsInFiles, emptied, file_of, records_of, spelled_records}
use Rattle.pdb_log.specs.Standing.{IsLog}
use Rattle.pdb_log.specs.declared.log.Log.{Log}
use Rattle.pdb_log.specs.declared.ring_file.RingFile.{RingFile}
use Rattle.pdb_log.proofs.Images.{KeptWithin, stands_safe}
use Rattle.pdb_log.proofs.Ledgers.{each_segment, not_cells, not_gate}
use Rattle.pdb_log.proofs.Passing.{cut_stands}
use Rattle.pdb_log.proofs.Logs.{SetTo, kept_within, safe_now}
use Rattle.pdb_log.proofs.Members.{in_none}
use Rattle.pdb_log.proofs.Rows.{same_rows}

module _ {D : Type 0} (tells : D → Bool) (clock : D → ℕ) (past : D → ℕ → Files) (log : Log D) (file : ℕ) (l : Ledger) (rows : List Row) (f : ℕ) (m : IsLogFile file) (is : IsLog tells clock past log l rows f) (pass : IsPassed (l.segments file) l.gate.number) where
  abbrev now_of : D → Files
  now_of d = past d (clock d)

  abbrev g : Segment
  g = record { first = log.number + 1; kept = []; pending = [] }

  within_after : KeptWithin (emptied l file (log.number + 1))
  within_after j = each_segment (λ k h. IsLogFile k → length (spelled_records h.kept) ≤ most_in_log) l.segments file g
      (λ mk. omega arith) (λ k ne mk. kept_within tells clock past log l rows f is k mk) j

  -- while the cut isn't synced
  pub cut_mid : (mid : D) → Begins file step.Cut (past log.disk (clock log.disk)) (past mid (clock mid)) → Safe rows f (past mid (clock mid))
  cut_mid mid begun = stands_safe rows f (now_of mid) (emptied l file (log.number + 1))
      (subst (λ (s : FileState). IsKeptGate s l.gate) (sym (begun.others gate_file (not_gate file m))) is.gate)
      (cut_stands (now_of log.disk) (now_of mid) l file (log.number + 1) m is.stands (is.segments file m) pass begun)
      within_after
      (same_rows rows f (now_of log.disk) (now_of mid) (emptied l file (log.number + 1)) (λ j high. begun.others j (not_cells file j m high)) is.are)

  pub cut_moments : (mid : D) → Elapses (clock log.disk) (clock mid) (past log.disk) (past mid)
      → (IsTrue (tells log.disk) → MayBegin file step.Cut (past log.disk (clock log.disk)) (past mid (clock mid)))
      → Moments (clock log.disk) (clock mid) (past log.disk) (past mid) (Safe rows f)
  cut_moments mid time begins = one_call (clock log.disk) (clock mid) (past log.disk) (past mid) (Safe rows f) time (safe_now tells clock past log l rows f is)
      (⊎_elim (cut_mid mid) (λ same. subst (Safe rows f) (sym same) (safe_now tells clock past log l rows f is)) (begins is.told))

  pub cut_log : (mid : D) (new : Log D) → new.gate ≡ log.gate → new.file ≡ log.file → new.number ≡ log.number
      → SetTo log.ends new.ends file 0 → SetTo log.synced new.synced file 0 → SetTo log.last new.last file log.number
      → IsTrue (tells new.disk) → Begins file step.Cut (past log.disk (clock log.disk)) (past mid (clock mid))
      → (past mid (clock mid) file).read ≡ done (past log.disk (clock log.disk) file).read step.Cut
      → Settles file (past mid (clock mid)) (past new.disk (clock new.disk))
      → IsLog tells clock past new (emptied l file (log.number + 1)) rows f
  cut_log mid new gate ring number ends synced lasts told begun written settles = record {
    told = told;
    stands = record {
      segments = λ j mj. inl (segments j mj);
      numbers = spent.numbers;
      into = spent.into;
      placed = spent.placed;
      safe = spent.safe;
    };
    gate = subst (λ (s : FileState). IsKeptGate s l.gate) (sym at_gate) is.gate;
    gate_read = ap (λ (s : FileState). s.read) at_gate ∙ is.gate_read ∙ ap (λ (s : FileState). s.kept) (sym at_gate);
    segments = segments;
    are = same_rows rows f (now_of log.disk) (now_of new.disk) (emptied l file (log.number + 1)) (λ j high. others j (not_cells file j m high)) is.are;
    len = is.len;
    read = λ j. each_segment (λ k h. IsLogFile k → (now_of new.disk k).read ≡ file_of (spelled_records (records_of h))) l.segments file g
        (λ mk. settles.read ∙ written) (λ k ne mk. ap (λ (s : FileState). s.read) (others k ne) ∙ is.read k mk) j;
    gate_is = gate ∙ is.gate_is;
    ends = λ j. each_segment (λ k h. IsLogFile k → slice_index new.ends k ≡ length (spelled_records (records_of h))) l.segments file g
        (λ mk. ends.here) (λ k ne mk. ends.others k ne ∙ is.ends k mk) j;
    within = λ j. each_segment (λ k h. IsLogFile k → length (spelled_records (records_of h)) ≤ most_in_log) l.segments file g
        (λ mk. omega arith) (λ k ne mk. is.within k mk) j;
    synced = λ j. each_segment (λ k h. IsLogFile k → slice_index new.synced k ≡ length (spelled_records h.kept)) l.segments file g
        (λ mk. synced.here) (λ k ne mk. synced.others k ne ∙ is.synced k mk) j;
    lasts = λ j. each_segment (λ k h. IsLogFile k → slice_index new.last k + 1 ≡ h.first + length (records_of h)) l.segments file g
        (λ mk. ap (λ n. n + 1) lasts.here ∙ added) (λ k ne mk. ap (λ n. n + 1) (lasts.others k ne) ∙ is.lasts k mk) j;
    unflushed = λ j r. each_segment (λ k h. IsLogFile k → Contains h.pending r → Contains l.rest r) l.segments file g
        (λ mk i. absurd (in_none r i)) (λ k ne mk i. is.unflushed k r mk i) j;
    in_file = each_segment (λ k h. k ≡ log.file.number → new.number + 1 ≡ h.first + length (records_of h)) l.segments file g
        (λ e. ap (λ n. n + 1) number ∙ added)
        (λ k ne e. ap (λ n. n + 1) number ∙ is.in_file ∙ ap (λ n. (l.segments n).first + length (records_of (l.segments n))) (sym e)) log.file.number refl
        ∙ ap (λ (t : RingFile). ((emptied l file (log.number + 1)).segments t.number).first + length (records_of ((emptied l file (log.number + 1)).segments t.number))) (sym ring);
    in_log = number ∙ is.in_log;
  }
    where
      others : (j : ℕ) → j ≢ file → now_of new.disk j ≡ now_of log.disk j
      others j ne = settles.others j ne ∙ begun.others j ne

      at_gate : now_of new.disk gate_file ≡ now_of log.disk gate_file
      at_gate = others gate_file (not_gate file m)

      added : log.number + 1 ≡ g.first + length (records_of g)
      added = omega arith

      spent : StandsInFiles (now_of mid) (emptied l file (log.number + 1))
      spent = cut_stands (now_of log.disk) (now_of mid) l file (log.number + 1) m is.stands (is.segments file m) pass begun

      segments : (j : ℕ) → IsLogFile j → IsSegment (now_of new.disk j) ((emptied l file (log.number + 1)).segments j)
      segments j = each_segment (λ k h. IsLogFile k → IsSegment (now_of new.disk k) h) l.segments file g
          (λ mk. record { kept_bytes = settles.kept ∙ written; since = settles.since; numbers = tt })
          (λ k ne mk. subst (λ (s : FileState). IsSegment s (l.segments k)) (sym (others k ne)) (is.segments k mk)) j
