-- What the syncs of a flush make of a log, and of its safety at each moment.
use Rattle.std.proofs.Common.{◌≡◌, ◌⊎◌, inl, inr, ⊎_elim, ℕ, ◌+◌, ◌≤◌, List, [], ◌∷◌, ◌++◌, length, refl, sym, ◌∙◌, ap, subst, arith, length-append}
use Rattle.std.specs.Prelude.{Bool, IsTrue, Contains, slice_index}
use Rattle.std.proofs.lemmas.Bool.{cases_eq}
use Rattle.std.proofs.lemmas.List.{append-nil}
use Rattle.pdb_disk.specs.Files.{FileState, Files, Settles, Elapses}
use Rattle.pdb_disk.specs.Moments.{Moments}
use Rattle.pdb_disk.proofs.Calls.{one_call}
use Rattle.pdb_model.specs.Logs.{IsLogFile, gate_file, most_in_log}
use Rattle.pdb_model.specs.Records.{Record, record_bytes}
use Rattle.pdb_model.specs.Recovery.{Row, Safe}
use Rattle.pdb_log.specs.Ledger.{IsKeptGate, IsSegment, Ledger, Segment, records_flushed, file_of, file_synced, records_of, spelled_records, with_segment}
use Rattle.pdb_log.specs.Standing.{IsLog}
use Rattle.pdb_log.specs.declared.log.Log.{Log}
use Rattle.pdb_log.specs.declared.ring_file.RingFile.{RingFile}
use Rattle.pdb_log.proofs.Bytes.{record_long, spelled-append}
use Rattle.pdb_log.proofs.Ledgers.{all_kept, each_segment, flush_stands, not_cells, not_gate, records_kept, sync_segment, sync_stands}
use Rattle.pdb_log.proofs.Logs.{SetTo, safe_now}
use Rattle.pdb_log.proofs.Members.{in_none, in_nothing}
use Rattle.pdb_log.proofs.Rows.{flush_rows, same_rows}

-- records of no bytes are none
pub no_records : (rs : List Record) → length (spelled_records rs) ≡ 0 → rs ≡ []
no_records [] e = refl
no_records (r ∷ rs) e = let p = record_long r in let q = length-append (record_bytes r) (spelled_records rs) in absurd (omega (arith, p, q, e))

pub kept_and_pending : (g : Segment) → length (spelled_records (records_of g)) ≡ length (spelled_records g.kept) + length (spelled_records g.pending)
kept_and_pending g = ap length (spelled-append g.kept g.pending) ∙ length-append (spelled_records g.kept) (spelled_records g.pending)

-- where no record is unsynced, a sync changes nothing in the ledger
same_segment : (g : Segment) → g.pending ≡ [] → g ≡ all_kept g
same_segment g none = λ i. record { first = g.first; kept = (sym (append-nil g.kept) ∙ ap (λ rs. g.kept ++ rs) (sym none)) i; pending = none i }

pub same_ledger : (l : Ledger) (file : ℕ) → (l.segments file).pending ≡ [] → l ≡ file_synced l file
same_ledger l file none = λ i. record { gate = l.gate; flushed = l.flushed; rest = l.rest; segments = λ j. at j i }
  where
    at : (j : ℕ) → l.segments j ≡ with_segment l.segments file (all_kept (l.segments file)) j
    at j = each_segment (λ k h. l.segments k ≡ h) l.segments file (all_kept (l.segments file)) (same_segment (l.segments file) none) (λ k ne. refl) j

-- after syncs no record is unsynced
pub none_pending : (l : Ledger) (file j : ℕ) → (j ≡ file) ⊎ ((l.segments j).pending ≡ []) → ((file_synced l file).segments j).pending ≡ []
none_pending l file j = each_segment (λ k h. (k ≡ file) ⊎ ((l.segments k).pending ≡ []) → h.pending ≡ []) l.segments file (all_kept (l.segments file))
    (λ h. refl) (λ k ne. ⊎_elim (λ e. absurd (ne e)) (λ e. e)) j

pub all_synced : (l : Ledger) (j : ℕ) → IsLogFile j → ((file_synced (file_synced (file_synced (file_synced l 1) 2) 3) 4).segments j).pending ≡ []
all_synced l j m = ⊎_elim
    (λ e. none_pending (file_synced (file_synced (file_synced l 1) 2) 3) 4 j (inl e))
    (λ n4. none_pending (file_synced (file_synced (file_synced l 1) 2) 3) 4 j (inr (⊎_elim
    (λ e. none_pending (file_synced (file_synced l 1) 2) 3 j (inl e))
    (λ n3. none_pending (file_synced (file_synced l 1) 2) 3 j (inr (⊎_elim
    (λ e. none_pending (file_synced l 1) 2 j (inl e))
    (λ n2. none_pending (file_synced l 1) 2 j (inr (none_pending l 1 j (inl (is_one n4 n3 n2)))))
    (cases_eq j 2))))
    (cases_eq j 3))))
    (cases_eq j 4)
  where
    is_one : (j ≡ 4 → ⊥) → (j ≡ 3 → ⊥) → (j ≡ 2 → ⊥) → j ≡ 1
    is_one n4 n3 n2 = let p = m.0 in let q = m.1 in omega (arith, p, q, n4, n3, n2)

module _ {D : Type 0} (tells : D → Bool) (clock : D → ℕ) (past : D → ℕ → Files) where
  abbrev now_of : D → Files
  now_of d = past d (clock d)

  -- a file whose bytes are all synced has no unsynced record
  pub due_none : (log : Log D) (l : Ledger) (rows : List Row) (f file : ℕ) → IsLogFile file → IsLog tells clock past log l rows f → slice_index log.ends file ≤ slice_index log.synced file → (l.segments file).pending ≡ []
  due_none log l rows f file m is le = no_records (l.segments file).pending
      (let p = is.ends file m in let q = is.synced file m in let s = kept_and_pending (l.segments file) in omega (arith, p, q, s, le))

  pub none_due : (log : Log D) (l : Ledger) (rows : List Row) (f file : ℕ) → IsLogFile file → IsLog tells clock past log l rows f → (l.segments file).pending ≡ [] → slice_index log.ends file ≤ slice_index log.synced file
  none_due log l rows f file m is none =
      let p = is.ends file m in let q = is.synced file m in let s = kept_and_pending (l.segments file) in
      let t : length (spelled_records (l.segments file).pending) ≡ 0 = ap (λ rs. length (spelled_records rs)) none in
      omega (arith, p, q, s, t)

  module _ (log new : Log D) (file : ℕ) (l : Ledger) (rows : List Row) (f : ℕ) (m : IsLogFile file) (is : IsLog tells clock past log l rows f) where
    -- a sync that was answered
    pub sync_log : new.gate ≡ log.gate → new.file ≡ log.file → new.number ≡ log.number → new.ends ≡ log.ends → new.last ≡ log.last
        → SetTo log.synced new.synced file (slice_index log.ends file)
        → IsTrue (tells new.disk) → Settles file (past log.disk (clock log.disk)) (past new.disk (clock new.disk)) → IsLog tells clock past new (file_synced l file) rows f
    sync_log gate ring number ends lasts synced told settles = record {
      told = told;
      stands = sync_stands (now_of log.disk) (now_of new.disk) l file is.stands m (is.read file m) (is.segments file m) settles;
      gate = subst (λ (s : FileState). IsKeptGate s l.gate) (sym (settles.others gate_file (not_gate file m))) is.gate;
      gate_read = let same = settles.others gate_file (not_gate file m) in
          ap (λ (s : FileState). s.read) same ∙ is.gate_read ∙ ap (λ (s : FileState). s.kept) (sym same);
      segments = λ j. each_segment (λ k h. IsLogFile k → IsSegment (now_of new.disk k) h) l.segments file g
          (λ mk. sync_segment (now_of log.disk) (now_of new.disk) (l.segments file) file (is.read file m) (is.segments file m) settles)
          (λ k ne mk. subst (λ (s : FileState). IsSegment s (l.segments k)) (sym (settles.others k ne)) (is.segments k mk)) j;
      are = same_rows rows f (now_of log.disk) (now_of new.disk) (file_synced l file) (λ j high. settles.others j (not_cells file j m high)) is.are;
      len = is.len;
      read = λ j. each_segment (λ k h. IsLogFile k → (now_of new.disk k).read ≡ file_of (spelled_records (records_of h))) l.segments file g
          (λ mk. settles.read ∙ is.read file m ∙ ap (λ (rs : List Record). file_of (spelled_records rs)) (sym same))
          (λ k ne mk. ap (λ (s : FileState). s.read) (settles.others k ne) ∙ is.read k mk) j;
      gate_is = gate ∙ is.gate_is;
      ends = λ j. each_segment (λ k h. IsLogFile k → slice_index new.ends k ≡ length (spelled_records (records_of h))) l.segments file g
          (λ mk. ap (λ xs. slice_index xs file) ends ∙ is.ends file mk ∙ ap (λ (rs : List Record). length (spelled_records rs)) (sym same))
          (λ k ne mk. ap (λ xs. slice_index xs k) ends ∙ is.ends k mk) j;
      within = λ j. each_segment (λ k h. IsLogFile k → length (spelled_records (records_of h)) ≤ most_in_log) l.segments file g
          (λ mk. subst (λ rs. length (spelled_records rs) ≤ most_in_log) (sym same) (is.within file mk)) (λ k ne mk. is.within k mk) j;
      synced = λ j. each_segment (λ k h. IsLogFile k → slice_index new.synced k ≡ length (spelled_records h.kept)) l.segments file g
          (λ mk. synced.here ∙ is.ends file mk) (λ k ne mk. synced.others k ne ∙ is.synced k mk) j;
      lasts = λ j. each_segment (λ k h. IsLogFile k → slice_index new.last k + 1 ≡ h.first + length (records_of h)) l.segments file g
          (λ mk. ap (λ xs. slice_index xs file + 1) lasts ∙ is.lasts file mk ∙ ap (λ (rs : List Record). (l.segments file).first + length rs) (sym same))
          (λ k ne mk. ap (λ xs. slice_index xs k + 1) lasts ∙ is.lasts k mk) j;
      unflushed = λ j r. each_segment (λ k h. IsLogFile k → Contains h.pending r → Contains l.rest r) l.segments file g
          (λ mk i. absurd (in_none r i)) (λ k ne mk i. is.unflushed k r mk i) j;
      in_file = ap (λ n. n + 1) number ∙ is.in_file ∙ each_segment (λ k h. (l.segments k).first + length (records_of (l.segments k)) ≡ h.first + length (records_of h)) l.segments file g
          (ap (λ (rs : List Record). (l.segments file).first + length rs) (sym same)) (λ k ne. refl) log.file.number
          ∙ ap (λ (t : RingFile). ((file_synced l file).segments t.number).first + length (records_of ((file_synced l file).segments t.number))) (sym ring);
      in_log = number ∙ is.in_log;
    }
      where
        g : Segment
        g = all_kept (l.segments file)

        same : records_of g ≡ records_of (l.segments file)
        same = records_kept (l.segments file)

  -- a sync, answered or failed
  pub sync_moments : (log : Log D) (disk : D) (l : Ledger) (rows : List Row) (f : ℕ) → IsLog tells clock past log l rows f → Elapses (clock log.disk) (clock disk) (past log.disk) (past disk) → Safe rows f (past disk (clock disk))
      → Moments (clock log.disk) (clock disk) (past log.disk) (past disk) (Safe rows f)
  sync_moments log disk l rows f is time safe = one_call (clock log.disk) (clock disk) (past log.disk) (past disk) (Safe rows f) time (safe_now tells clock past log l rows f is) safe

  -- each log file was synced
  pub flush_log : (log : Log D) (l : Ledger) (rows : List Row) (f : ℕ) → ((j : ℕ) → IsLogFile j → (l.segments j).pending ≡ []) → IsLog tells clock past log l rows f
      → IsLog tells clock past log (records_flushed l) rows (f + length l.rest)
  flush_log log l rows f none is = record {
    told = is.told;
    stands = flush_stands (now_of log.disk) l is.stands none;
    gate = is.gate;
    gate_read = is.gate_read;
    segments = is.segments;
    are = flush_rows rows f (now_of log.disk) l is.are;
    len = let n = is.len in omega (arith, n);
    read = is.read;
    gate_is = is.gate_is;
    ends = is.ends;
    within = is.within;
    synced = is.synced;
    lasts = is.lasts;
    unflushed = λ j r m i. absurd (in_nothing (l.segments j).pending r (none j m) i);
    in_file = is.in_file;
    in_log = is.in_log ∙ ap (λ (rs : List Record). l.gate.number + length rs) (sym (append-nil (l.flushed ++ l.rest)));
  }
