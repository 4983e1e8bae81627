-- What one device call makes of a log that stands in its files.
use Rattle.std.proofs.Common.{◌≡◌, ◌≢◌, ◌⊎◌, inl, ⊎_elim, ℕ, ◌+◌, ◌≤◌, ◌<◌, List, [], ◌∷◌, ◌++◌, length, sym, ◌∙◌, ap, subst, arith, length-append, append_assoc}
use Rattle.std.specs.Prelude.{Contains}
use Rattle.std.proofs.lemmas.Bool.{cases_eq}
use Rattle.std.proofs.lemmas.Bool.Decides.{nat_tests}
use Rattle.std.proofs.lemmas.List.{append-nil}
use Rattle.std.proofs.lemmas.List.Elements.{Contains-append_left, Contains-append_right, Contains-append_cases}
use Rattle.pdb_disk.specs.Files.{Step, FileState, Files, Begins, Settles}
use Rattle.pdb_disk.specs.Files.{Step as step}
use Rattle.pdb_model.specs.Logs.{IsLogFile, gate_file}
use Rattle.pdb_model.specs.Records.{IsRecord, Record, record_bytes}
use Rattle.pdb_log.specs.Ledger.{AreNumbered, IsSegment, IsSpent, Ledger, Segment, StandsInFiles, records_flushed, appended, file_of, file_synced, records_of, spelled_records, with_segment, writes_of}
use Rattle.pdb_log.proofs.Bytes.{spelled-append}
use Rattle.pdb_log.proofs.Members.{in_none, numbered_push}

pub segment_here : (segments : ℕ → Segment) (file : ℕ) (g : Segment) → with_segment segments file g file ≡ g
segment_here segments file g = grind (arith, nat_tests)

pub segment_else : (segments : ℕ → Segment) (file j : ℕ) (g : Segment) → j ≢ file → with_segment segments file g j ≡ segments j
segment_else segments file j g ne = grind (arith, nat_tests)

-- what holds of the new segment at its file and of the old ones elsewhere holds of each
pub each_segment : (P : ℕ → Segment → Type 0) (segments : ℕ → Segment) (file : ℕ) (g : Segment) → P file g → ((j : ℕ) → j ≢ file → P j (segments j)) → (j : ℕ) → P j (with_segment segments file g j)
each_segment P segments file g here others j = ⊎_elim
    (λ e. subst (λ k. P k (with_segment segments file g k)) (sym e) (subst (P file) (sym (segment_here segments file g)) here))
    (λ ne. subst (P j) (sym (segment_else segments file j g ne)) (others j ne))
    (cases_eq j file)

pub not_gate : (file : ℕ) → IsLogFile file → gate_file ≢ file
not_gate file m e = let p = m.0 in omega (arith, p, e)

pub not_cells : (file j : ℕ) → IsLogFile file → 9 ≤ j → j ≢ file
not_cells file j m high e = let p = m.1 in omega (arith, p, e, high)

writes_push : (at : ℕ) (rs : List Record) (r : Record) → writes_of at (rs ++ r ∷ []) ≡ writes_of at rs ++ step.Write (at + length (spelled_records rs)) (record_bytes r) ∷ []
writes_push at [] r = let e : at ≡ at + 0 = omega arith in ap (λ n. step.Write n (record_bytes r) ∷ []) e
writes_push at (a ∷ rs) r =
    let e : at + length (record_bytes a) + length (spelled_records rs) ≡ at + length (record_bytes a ++ spelled_records rs) = let q = length-append (record_bytes a) (spelled_records rs) in omega (arith, q) in
    ap (λ l. step.Write at (record_bytes a) ∷ l) (writes_push (at + length (record_bytes a)) rs r ∙ ap (λ n. writes_of (at + length (record_bytes a)) rs ++ step.Write n (record_bytes r) ∷ []) e)

-- a segment with one more record, and one that was synced
abbrev pub longer : Segment → Record → Segment
longer g r = record g { pending = g.pending ++ r ∷ [] }

abbrev pub all_kept : Segment → Segment
all_kept g = record { first = g.first; kept = records_of g; pending = [] }

pub records_longer : (g : Segment) (r : Record) → records_of (longer g r) ≡ records_of g ++ r ∷ []
records_longer g r = sym (append_assoc g.kept g.pending (r ∷ []))

pub records_kept : (g : Segment) → records_of (all_kept g) ≡ records_of g
records_kept g = append-nil (records_of g)

-- a file that may be spent
abbrev pub Lies : FileState → Segment → ℕ → Type 0
Lies s g n = IsSegment s g ⊎ (IsSpent s n × (records_of g ≡ []))

-- the file of a write after its last record
pub write_segment : (old new : Files) (g : Segment) (file at : ℕ) (r : Record) → at ≡ length (spelled_records (records_of g)) → IsRecord r → r.number ≡ g.first + length (records_of g)
    → IsSegment (old file) g → Begins file (step.Write at (record_bytes r)) old new → IsSegment (new file) (longer g r)
write_segment old new g file at r place is in_file before begun =
    let end : at ≡ length (spelled_records g.kept) + length (spelled_records g.pending) =
    place ∙ ap length (spelled-append g.kept g.pending) ∙ length-append (spelled_records g.kept) (spelled_records g.pending) in
    record {
      kept_bytes = begun.kept ∙ before.kept_bytes;
      since = begun.since
          ∙ ap (λ (ss : List Step). ss ++ step.Write at (record_bytes r) ∷ []) before.since
          ∙ ap (λ n. writes_of (length (spelled_records g.kept)) g.pending ++ step.Write n (record_bytes r) ∷ []) end
          ∙ sym (writes_push (length (spelled_records g.kept)) g.pending r);
      numbers = subst (AreNumbered g.first) (append_assoc g.kept g.pending (r ∷ [])) (numbered_push g.first (records_of g) r before.numbers is in_file);
    }

-- the file of a sync that succeeded
pub sync_segment : (old new : Files) (g : Segment) (file : ℕ) → (old file).read ≡ file_of (spelled_records (records_of g)) → IsSegment (old file) g → Settles file old new → IsSegment (new file) (all_kept g)
sync_segment old new g file whole before synced = record {
  kept_bytes = synced.kept ∙ whole;
  since = synced.since;
  numbers = subst (AreNumbered g.first) (sym (append-nil (records_of g))) before.numbers;
}

-- a write of a record after the last of its file, answered or failed
pub write_stands : (old new : Files) (l : Ledger) (file at : ℕ) (r : Record) → StandsInFiles old l → IsLogFile file → IsRecord r
    → at ≡ length (spelled_records (records_of (l.segments file))) → r.number ≡ (l.segments file).first + length (records_of (l.segments file))
    → r.number ≡ l.gate.number + 1 + length (l.flushed ++ l.rest) → IsSegment (old file) (l.segments file) → Begins file (step.Write at (record_bytes r)) old new → StandsInFiles new (appended l file r)
write_stands old new l file at r is m good place in_file in_log before begun = record {
  segments = λ j. each_segment (λ k h. IsLogFile k → Lies (new k) h l.gate.number) l.segments file g (λ mk. inl here)
      (λ k ne mk. subst (λ (s : FileState). Lies s (l.segments k) l.gate.number) (sym (begun.others k ne)) (is.segments k mk)) j;
  numbers = subst (AreNumbered (l.gate.number + 1)) (append_assoc l.flushed l.rest (r ∷ [])) (numbered_push (l.gate.number + 1) (l.flushed ++ l.rest) r is.numbers good in_log);
  into = λ j q. each_segment (λ k h. IsLogFile k → Contains (records_of h) q → l.gate.number < q.number → Contains (l.flushed ++ (l.rest ++ r ∷ [])) q) l.segments file g
      (λ mk i more. ⊎_elim
      (λ k. more_of q (is.into file q m k more))
      (λ k. Contains-append_right l.flushed (l.rest ++ r ∷ []) q (Contains-append_right l.rest (r ∷ []) q k))
      (Contains-append_cases (records_of (l.segments file)) (r ∷ []) q (subst (λ rs. Contains rs q) (records_longer (l.segments file) r) i)))
      (λ k ne mk i more. more_of q (is.into k q mk i more)) j;
  placed = λ q i. ⊎_elim
      (λ k. let old_place = is.placed q k in (old_place.0, old_place.1, still_in q old_place.0 old_place.2))
      (λ k. (file, m, subst (λ h. Contains (records_of h) q) (sym (segment_here l.segments file g)) (subst (λ rs. Contains rs q) (sym (records_longer (l.segments file) r)) (Contains-append_right (records_of (l.segments file)) (r ∷ []) q k))))
      (Contains-append_cases l.rest (r ∷ []) q i);
  safe = λ q i. let k = is.safe q i in (k.0, k.1, each_segment (λ n h. Contains (l.segments n).kept q → Contains h.kept q) l.segments file g (λ s. s) (λ n ne s. s) k.0 k.2);
}
  where
    g : Segment
    g = longer (l.segments file) r

    more_of : (q : Record) → Contains (l.flushed ++ l.rest) q → Contains (l.flushed ++ (l.rest ++ r ∷ [])) q
    more_of q i = subst (λ rs. Contains rs q) (append_assoc l.flushed l.rest (r ∷ [])) (Contains-append_left (l.flushed ++ l.rest) (r ∷ []) q i)

    still_in : (q : Record) (j : ℕ) → Contains (records_of (l.segments j)) q → Contains (records_of (with_segment l.segments file g j)) q
    still_in q j = each_segment (λ n h. Contains (records_of (l.segments n)) q → Contains (records_of h) q) l.segments file g
        (λ s. subst (λ rs. Contains rs q) (sym (records_longer (l.segments file) r)) (Contains-append_left (records_of (l.segments file)) (r ∷ []) q s)) (λ n ne s. s) j

    here : IsSegment (new file) g
    here = write_segment old new (l.segments file) file at r place good in_file before begun

-- a sync that succeeded
pub sync_stands : (old new : Files) (l : Ledger) (file : ℕ) → StandsInFiles old l → IsLogFile file → (old file).read ≡ file_of (spelled_records (records_of (l.segments file)))
    → IsSegment (old file) (l.segments file) → Settles file old new → StandsInFiles new (file_synced l file)
sync_stands old new l file is m whole before synced = record {
  segments = λ j. each_segment (λ k h. IsLogFile k → Lies (new k) h l.gate.number) l.segments file g
      (λ mk. inl (sync_segment old new (l.segments file) file whole before synced))
      (λ k ne mk. subst (λ (s : FileState). Lies s (l.segments k) l.gate.number) (sym (synced.others k ne)) (is.segments k mk)) j;
  numbers = is.numbers;
  into = λ j q. each_segment (λ k h. IsLogFile k → Contains (records_of h) q → l.gate.number < q.number → Contains (l.flushed ++ l.rest) q) l.segments file g
      (λ mk i more. is.into file q m (subst (λ rs. Contains rs q) (records_kept (l.segments file)) i) more)
      (λ k ne mk i more. is.into k q mk i more) j;
  placed = λ q i. let k = is.placed q i in (
    k.0,
    k.1,
    each_segment (λ n h. Contains (records_of (l.segments n)) q → Contains (records_of h) q) l.segments file g
        (λ s. subst (λ rs. Contains rs q) (sym (records_kept (l.segments file))) s) (λ n ne s. s) k.0 k.2,
  );
  safe = λ q i. let k = is.safe q i in (
    k.0,
    k.1,
    each_segment (λ n h. Contains (l.segments n).kept q → Contains h.kept q) l.segments file g
        (λ s. Contains-append_left (l.segments file).kept (l.segments file).pending q s) (λ n ne s. s) k.0 k.2,
  );
}
  where
    g : Segment
    g = all_kept (l.segments file)

-- where no log file has records after its last sync, all are flushed
pub flush_stands : (fs : Files) (l : Ledger) → StandsInFiles fs l → ((j : ℕ) → IsLogFile j → (l.segments j).pending ≡ []) → StandsInFiles fs (records_flushed l)
flush_stands fs l is none = record {
  segments = is.segments;
  numbers = subst (AreNumbered (l.gate.number + 1)) whole is.numbers;
  into = λ j q m i more. subst (λ rs. Contains rs q) whole (is.into j q m i more);
  placed = λ q i. absurd (in_none q i);
  safe = λ q i. ⊎_elim
      (λ k. is.safe q k)
      (λ k. let p = is.placed q k in
      (p.0, p.1, subst (λ rs. Contains rs q) (ap (λ rs. (l.segments p.0).kept ++ rs) (none p.0 p.1) ∙ append-nil (l.segments p.0).kept) p.2))
      (Contains-append_cases l.flushed l.rest q i);
}
  where
    whole : l.flushed ++ l.rest ≡ (l.flushed ++ l.rest) ++ []
    whole = sym (append-nil (l.flushed ++ l.rest))

-- the log files stay
pub same_stands : (old new : Files) (l : Ledger) → ((j : ℕ) → IsLogFile j → new j ≡ old j) → StandsInFiles old l → StandsInFiles new l
same_stands old new l same is = record {
  segments = λ j m. subst (λ (s : FileState). Lies s (l.segments j) l.gate.number) (sym (same j m)) (is.segments j m);
  numbers = is.numbers;
  into = is.into;
  placed = is.placed;
  safe = is.safe;
}
