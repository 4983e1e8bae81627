-- What the device calls of an append and a flush make of a log, and of its safety at each moment.
use Rattle.std.proofs.Common.{◌≡◌, ◌≢◌, ⊎_elim, ℕ, ◌+◌, ◌≤◌, ◌<◌, ◌^◌, List, [], ◌∷◌, ◌++◌, length, All, sym, ◌∙◌, ap, subst, arith, length-append}
use Rattle.std.specs.Prelude.{Bool, IsTrue, Contains, Some, set, slice_get, slice_index}
use Rattle.std.proofs.lemmas.List.{get_or-set_same, get_or-set_other}
use Rattle.std.proofs.lemmas.List.Elements.{Contains-append_left, Contains-append_right, Contains-append_cases}
use Rattle.pdb_cells.specs.Puts.{IsWholeCell, NoCellTwice}
use Rattle.pdb_cells.specs.declared.Put.{Put}
use Rattle.pdb_disk.specs.Files.{FileBytes, FileState, Files, Begins, MayBegin, Elapses, done}
use Rattle.pdb_disk.specs.Files.{Step as step}
use Rattle.pdb_disk.specs.Moments.{Moments}
use Rattle.pdb_disk.proofs.Calls.{one_call}
use Rattle.pdb_model.specs.Logs.{IsLogFile, gate_file, most_in_log}
use Rattle.pdb_model.specs.Records.{IsRecord, Record, body_bytes, record_bytes}
use Rattle.pdb_model.specs.Recovery.{Row, Safe}
use Rattle.pdb_record.proofs.Splits.{ten_each}
use Rattle.pdb_log.specs.Ledger.{AreRows, IsKeptGate, IsSegment, Ledger, Segment, StandsInFiles, appended, file_of, records_of, row_after, spelled_records}
use Rattle.pdb_log.specs.Standing.{IsLog, end_of_log}
use Rattle.pdb_log.specs.declared.log.Log.{Log}
use Rattle.pdb_log.proofs.Bytes.{done_at_end, spelled-append, spelled_push}
use Rattle.pdb_log.proofs.Images.{KeptWithin, stands_safe}
use Rattle.pdb_log.proofs.Ledgers.{each_segment, longer, not_cells, not_gate, records_longer, segment_here, write_segment, write_stands}
use Rattle.pdb_log.proofs.Rows.{append_rows, more_rows, same_rows}

-- a list of numbers with another one at a place
pub record SetTo (xs ys : List ℕ) (i v : ℕ) : Type 0 where
  pub here : slice_index ys i ≡ v
  pub others : (j : ℕ) → j ≢ i → slice_index ys j ≡ slice_index xs j

pub set_to : (xs : List ℕ) (i v : ℕ) → i < length xs → SetTo xs (set xs i v) i v
set_to xs i v low = record { here = get_or-set_same xs i v 0 low; others = λ j ne. get_or-set_other xs i j v 0 ne }

-- a write of the same bytes
pub begun_as : (file at : ℕ) (a b : List ℕ) (old new : Files) → a ≡ b → Begins file (step.Write at a) old new → Begins file (step.Write at b) old new
begun_as file at a b old new e h = subst (λ bs. Begins file (step.Write at bs) old new) e h

pub may_as : (file at : ℕ) (a b : List ℕ) (old new : Files) → a ≡ b → MayBegin file (step.Write at a) old new → MayBegin file (step.Write at b) old new
may_as file at a b old new e h = subst (λ bs. MayBegin file (step.Write at bs) old new) e h

pub done_as : (c d : FileBytes) (at : ℕ) (a b : List ℕ) → a ≡ b → d ≡ done c (step.Write at a) → d ≡ done c (step.Write at b)
done_as c d at a b e h = h ∙ ap (λ bs. done c (step.Write at bs)) e

-- a record of whole cells, each once, keeps the rules
pub good_record : (number commits : ℕ) (puts : List Put) → 1 ≤ number → number < 2 ^ 64 → commits < 2 ^ 64 → length (body_bytes puts) ≤ 2 ^ 62 → All IsWholeCell puts → NoCellTwice puts
    → IsRecord (record { number = number; commits = commits; puts = puts })
good_record number commits puts first narrow few short whole once = record {
  header = record { first = first; narrow_number = narrow; narrow_commits = few; short = short; narrow_puts = (let t = ten_each puts in omega (arith, t, short)) };
  whole = whole;
  once = once;
}

kept_short : (g : Segment) → length (spelled_records g.kept) ≤ length (spelled_records (records_of g))
kept_short g = let p = ap length (spelled-append g.kept g.pending) in let q = length-append (spelled_records g.kept) (spelled_records g.pending) in omega (arith, p, q)

module _ {D : Type 0} (tells : D → Bool) (clock : D → ℕ) (past : D → ℕ → Files) where
  abbrev now_of : D → Files
  now_of d = past d (clock d)

  pub kept_within : (log : Log D) (l : Ledger) (rows : List Row) (f : ℕ) → IsLog tells clock past log l rows f → KeptWithin l
  kept_within log l rows f is j m = let p = is.within j m in let q = kept_short (l.segments j) in omega (arith, p, q)

  pub safe_now : (log : Log D) (l : Ledger) (rows : List Row) (f : ℕ) → IsLog tells clock past log l rows f → Safe rows f (past log.disk (clock log.disk))
  safe_now log l rows f is = stands_safe rows f (now_of log.disk) l is.gate is.stands (kept_within log l rows f is) is.are

  -- ---- a write after the last record

  module _ (log : Log D) (disk : D) (r : Record) (l : Ledger) (rows : List Row) (f : ℕ) (row : Row)
      (good : IsRecord r) (number : r.number ≡ log.number + 1) (is : IsLog tells clock past log l rows f) (last : slice_get rows (f + length l.rest) ≡ Some row) where
    abbrev file : ℕ
    file = log.file.number

    abbrev m : IsLogFile file
    m = log.file.in_ring

    abbrev Writes : D → Type 0
    Writes d = Begins file (step.Write (end_of_log log) (record_bytes r)) (now_of log.disk) (now_of d)

    abbrev next_rows : List Row
    next_rows = rows ++ row_after row r ∷ []

    stands_after : Writes disk → StandsInFiles (now_of disk) (appended l file r)
    stands_after begun = write_stands (now_of log.disk) (now_of disk) l file (end_of_log log) r is.stands m good (is.ends file m) (number ∙ is.in_file)
        (let e = is.in_log in omega (arith, number, e)) (is.segments file m) begun

    gate_after : Writes disk → IsKeptGate (now_of disk gate_file) l.gate
    gate_after begun = subst (λ (s : FileState). IsKeptGate s l.gate) (sym (begun.others gate_file (not_gate file m))) is.gate

    rows_after : Writes disk → AreRows next_rows f (now_of disk) (appended l file r)
    rows_after begun = same_rows next_rows f (now_of log.disk) (now_of disk) (appended l file r) (λ j high. begun.others j (not_cells file j m high))
        (append_rows rows f (now_of log.disk) l file r row is.len last is.are)

    pub safe_before : Safe next_rows f (now_of log.disk)
    safe_before = more_rows rows (row_after row r ∷ []) f (now_of log.disk) (safe_now log l rows f is)

    within_after : KeptWithin (appended l file r)
    within_after j = each_segment (λ k h. IsLogFile k → length (spelled_records h.kept) ≤ most_in_log) l.segments file (longer (l.segments file) r)
        (λ mk. kept_within log l rows f is file mk) (λ k ne mk. kept_within log l rows f is k mk) j

    -- answered or failed
    pub write_moments : Elapses (clock log.disk) (clock disk) (past log.disk) (past disk)
        → (IsTrue (tells log.disk) → MayBegin file (step.Write (end_of_log log) (record_bytes r)) (past log.disk (clock log.disk)) (past disk (clock disk)))
        → Moments (clock log.disk) (clock disk) (past log.disk) (past disk) (Safe (rows ++ row_after row r ∷ []) f)
    write_moments time begins = one_call (clock log.disk) (clock disk) (past log.disk) (past disk) (Safe next_rows f) time safe_before
        (⊎_elim
        (λ begun. stands_safe next_rows f (now_of disk) (appended l file r) (gate_after begun) (stands_after begun) within_after (rows_after begun))
        (λ same. subst (Safe next_rows f) (sym same) safe_before)
        (begins is.told))

    -- answered
    pub write_log : (new : Log D) → new.disk ≡ disk → new.gate ≡ log.gate → new.file ≡ log.file → new.number ≡ log.number + 1 → new.synced ≡ log.synced
        → SetTo log.ends new.ends log.file.number (end_of_log log + length (record_bytes r)) → SetTo log.last new.last log.file.number (log.number + 1)
        → end_of_log log + length (record_bytes r) ≤ most_in_log
        → IsTrue (tells disk) → Begins log.file.number (step.Write (end_of_log log) (record_bytes r)) (past log.disk (clock log.disk)) (past disk (clock disk))
        → (past disk (clock disk) log.file.number).read ≡ done (past log.disk (clock log.disk) log.file.number).read (step.Write (end_of_log log) (record_bytes r))
        → IsLog tells clock past new (appended l log.file.number r) (rows ++ row_after row r ∷ []) f
    write_log new on gate ring count synced ends lasts low told begun written = record {
      told = subst (λ d. IsTrue (tells d)) (sym on) told;
      stands = moved (λ fs. StandsInFiles fs (appended l file r)) (stands_after begun);
      gate = moved (λ fs. IsKeptGate (fs gate_file) l.gate) (gate_after begun);
      gate_read = moved (λ fs. (fs gate_file).read ≡ (fs gate_file).kept) (let same = begun.others gate_file (not_gate file m) in
          ap (λ (s : FileState). s.read) same ∙ is.gate_read ∙ ap (λ (s : FileState). s.kept) (sym same));
      segments = λ j. each_segment (λ k h. IsLogFile k → IsSegment (now_of new.disk k) h) l.segments file g
          (λ mk. moved (λ fs. IsSegment (fs file) g) (write_segment (now_of log.disk) (now_of disk) (l.segments file) file (end_of_log log) r (is.ends file m) good (number ∙ is.in_file) (is.segments file m) begun))
          (λ k ne mk. moved (λ fs. IsSegment (fs k) (l.segments k)) (subst (λ (s : FileState). IsSegment s (l.segments k)) (sym (begun.others k ne)) (is.segments k mk))) j;
      are = moved (λ fs. AreRows next_rows f fs (appended l file r)) (rows_after begun);
      len = let p = length-append rows (row_after row r ∷ []) in let q = length-append l.rest (r ∷ []) in let n = is.len in omega (arith, p, q, n);
      read = λ j. each_segment (λ k h. IsLogFile k → (now_of new.disk k).read ≡ file_of (spelled_records (records_of h))) l.segments file g
          (λ mk. moved (λ fs. (fs file).read ≡ file_of (spelled_records (records_of g))) (written
          ∙ ap (λ (c : FileBytes). done c (step.Write (end_of_log log) (record_bytes r))) (is.read file m)
          ∙ ap (λ n. done (file_of have) (step.Write n (record_bytes r))) (is.ends file m)
          ∙ done_at_end have (record_bytes r) ∙ ap file_of (sym more)))
          (λ k ne mk. moved (λ fs. (fs k).read ≡ file_of (spelled_records (records_of (l.segments k)))) (ap (λ (s : FileState). s.read) (begun.others k ne) ∙ is.read k mk)) j;
      gate_is = gate ∙ is.gate_is;
      ends = λ j. each_segment (λ k h. IsLogFile k → slice_index new.ends k ≡ length (spelled_records (records_of h))) l.segments file g
          (λ mk. ends.here ∙ grown) (λ k ne mk. ends.others k ne ∙ is.ends k mk) j;
      within = λ j. each_segment (λ k h. IsLogFile k → length (spelled_records (records_of h)) ≤ most_in_log) l.segments file g
          (λ mk. omega (arith, grown, low)) (λ k ne mk. is.within k mk) j;
      synced = λ j. each_segment (λ k h. IsLogFile k → slice_index new.synced k ≡ length (spelled_records h.kept)) l.segments file g
          (λ mk. ap (λ xs. slice_index xs file) synced ∙ is.synced file mk) (λ k ne mk. ap (λ xs. slice_index xs k) synced ∙ is.synced k mk) j;
      lasts = λ j. each_segment (λ k h. IsLogFile k → slice_index new.last k + 1 ≡ h.first + length (records_of h)) l.segments file g
          (λ mk. ap (λ n. n + 1) lasts.here ∙ one_more) (λ k ne mk. ap (λ n. n + 1) (lasts.others k ne) ∙ is.lasts k mk) j;
      unflushed = λ j q. each_segment (λ k h. IsLogFile k → Contains h.pending q → Contains (l.rest ++ r ∷ []) q) l.segments file g
          (λ mk i. ⊎_elim (λ a. Contains-append_left l.rest (r ∷ []) q (is.unflushed file q mk a)) (λ b. Contains-append_right l.rest (r ∷ []) q b)
          (Contains-append_cases (l.segments file).pending (r ∷ []) q i))
          (λ k ne mk i. Contains-append_left l.rest (r ∷ []) q (is.unflushed k q mk i)) j;
      in_file = ap (λ n. n + 1) count ∙ one_more
          ∙ ap (λ (h : Segment). h.first + length (records_of h)) (sym (segment_here l.segments file g))
          ∙ ap (λ (k : ℕ). ((appended l file r).segments k).first + length (records_of ((appended l file r).segments k))) (ap (λ (t : Rattle.pdb_log.specs.declared.ring_file.RingFile.RingFile). t.number) (sym ring));
      in_log =
          let p = length-append l.flushed (l.rest ++ r ∷ []) in let q = length-append l.rest (r ∷ []) in let s = length-append l.flushed l.rest in let n = is.in_log in
          omega (arith, p, q, s, n, count);
    }
      where
        g : Segment
        g = longer (l.segments file) r

        have : List ℕ
        have = spelled_records (records_of (l.segments file))

        moved : (P : Files → Type 0) → P (now_of disk) → P (now_of new.disk)
        moved P h = subst (λ d. P (now_of d)) (sym on) h

        more : spelled_records (records_of g) ≡ have ++ record_bytes r
        more = ap spelled_records (records_longer (l.segments file) r) ∙ spelled_push (records_of (l.segments file)) r

        grown : end_of_log log + length (record_bytes r) ≡ length (spelled_records (records_of g))
        grown = ap (λ n. n + length (record_bytes r)) (is.ends file m) ∙ sym (length-append have (record_bytes r)) ∙ ap length (sym more)

        one_more : log.number + 1 + 1 ≡ g.first + length (records_of g)
        one_more = let p = ap length (records_longer (l.segments file) r) in let q = length-append (records_of (l.segments file)) (r ∷ []) in let n = is.in_file in omega (arith, p, q, n)
