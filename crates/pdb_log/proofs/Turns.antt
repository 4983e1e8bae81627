-- What is made of a log where an empty file becomes current.
use Rattle.std.proofs.Common.{◌≡◌, ◌==◌, ◌&&◌, Bool, true, nat_le, if◌then◌else◌, inl, ℕ, ◌+◌, ◌≤◌, ◌<◌, List, [], ◌∷◌, ◌++◌, length, refl, sym, ◌∙◌, ap, subst, arith}
use Rattle.std.specs.Prelude.{Contains, IsTrue, slice_index}
use Rattle.std.proofs.lemmas.Bool.Decides.{nat_tests}
use Rattle.pdb_disk.specs.Files.{Files}
use Rattle.pdb_model.specs.Logs.{IsLogFile, gate_file, most_in_log}
use Rattle.pdb_model.specs.Records.{Record}
use Rattle.pdb_model.specs.Recovery.{Row}
use Rattle.pdb_log.specs.Ledger.{AreRows, IsKeptGate, IsSegment, Ledger, Segment, StandsInFiles, emptied, file_of, records_of, spelled_records, writes_of}
use Rattle.pdb_log.specs.Standing.{IsLog, end_of_log, next_in_ring, turned, turns}
use Rattle.pdb_log.specs.declared.log.Log.{Log}
use Rattle.pdb_log.proofs.Ledgers.{Lies, each_segment, segment_here}
use Rattle.pdb_log.proofs.Logs.{SetTo}
use Rattle.pdb_log.proofs.Members.{in_none, in_nothing}
use Rattle.pdb_log.proofs.Syncs.{no_records}

none_left : (xs ys : List Record) → xs ++ ys ≡ [] → xs ≡ []
none_left [] ys e = refl
none_left (x ∷ xs) ys e = let l = ap length e in absurd (omega (arith, l))

none_right : (xs ys : List Record) → xs ++ ys ≡ [] → ys ≡ []
none_right [] ys e = e
none_right (x ∷ xs) ys e = let l = ap length e in absurd (omega (arith, l))

module _ {D : Type 0} (tells : D → Bool) (clock : D → ℕ) (past : D → ℕ → Files) (log new : Log D) (file : ℕ) (l : Ledger) (rows : List Row) (f : ℕ) (m : IsLogFile file) (is : IsLog tells clock past log l rows f) where
  pub turned_log : new.disk ≡ log.disk → new.gate ≡ log.gate → new.file.number ≡ file → new.number ≡ log.number → new.ends ≡ log.ends → new.synced ≡ log.synced → SetTo log.last new.last file log.number
      → slice_index log.ends file ≡ 0 → IsLog tells clock past new (emptied l file (log.number + 1)) rows f
  turned_log on gate ring number ends synced lasts zero = record {
    told = subst (λ d. IsTrue (tells d)) (sym on) is.told;
    stands = moved (λ fs. StandsInFiles fs (emptied l file (log.number + 1))) (record {
      segments = λ j. each_segment (λ k h. IsLogFile k → Lies (past log.disk (clock log.disk) k) h l.gate.number) l.segments file g
          (λ mk. inl here) (λ k ne mk. is.stands.segments k mk) j;
      numbers = is.stands.numbers;
      into = λ j r. each_segment (λ k h. IsLogFile k → Contains (records_of h) r → l.gate.number < r.number → Contains (l.flushed ++ l.rest) r) l.segments file g
          (λ mk i more. absurd (in_none r i)) (λ k ne mk i more. is.stands.into k r mk i more) j;
      placed = λ r i. let k = is.stands.placed r i in (
        k.0,
        k.1,
        each_segment (λ p h. Contains (records_of (l.segments p)) r → Contains (records_of h) r) l.segments file g
            (λ q. absurd (in_nothing (records_of (l.segments file)) r none q)) (λ p ne q. q) k.0 k.2,
      );
      safe = λ r i. let k = is.stands.safe r i in (
        k.0,
        k.1,
        each_segment (λ p h. Contains (l.segments p).kept r → Contains h.kept r) l.segments file g
            (λ q. absurd (in_nothing (l.segments file).kept r kept q)) (λ p ne q. q) k.0 k.2,
      );
    });
    gate = moved (λ fs. IsKeptGate (fs gate_file) l.gate) is.gate;
    gate_read = moved (λ fs. (fs gate_file).read ≡ (fs gate_file).kept) is.gate_read;
    segments = λ j. each_segment (λ k h. IsLogFile k → IsSegment (past new.disk (clock new.disk) k) h) l.segments file g
        (λ mk. moved (λ fs. IsSegment (fs file) g) here) (λ k ne mk. moved (λ fs. IsSegment (fs k) (l.segments k)) (is.segments k mk)) j;
    are = moved (λ fs. AreRows rows f fs l) is.are;
    len = is.len;
    read = λ j. each_segment (λ k h. IsLogFile k → (past new.disk (clock new.disk) k).read ≡ file_of (spelled_records (records_of h))) l.segments file g
        (λ mk. moved (λ fs. (fs file).read ≡ file_of []) (is.read file m ∙ ap (λ (rs : List Record). file_of (spelled_records rs)) none))
        (λ k ne mk. moved (λ fs. (fs k).read ≡ file_of (spelled_records (records_of (l.segments k)))) (is.read k mk)) j;
    gate_is = gate ∙ is.gate_is;
    ends = λ j. each_segment (λ k h. IsLogFile k → slice_index new.ends k ≡ length (spelled_records (records_of h))) l.segments file g
        (λ mk. ap (λ xs. slice_index xs file) ends ∙ zero) (λ k ne mk. ap (λ xs. slice_index xs k) ends ∙ is.ends k mk) j;
    within = λ j. each_segment (λ k h. IsLogFile k → length (spelled_records (records_of h)) ≤ most_in_log) l.segments file g
        (λ mk. omega arith) (λ k ne mk. is.within k mk) j;
    synced = λ j. each_segment (λ k h. IsLogFile k → slice_index new.synced k ≡ length (spelled_records h.kept)) l.segments file g
        (λ mk. ap (λ xs. slice_index xs file) synced ∙ is.synced file mk ∙ ap (λ rs. length (spelled_records rs)) kept)
        (λ k ne mk. ap (λ xs. slice_index xs k) synced ∙ is.synced k mk) j;
    lasts = λ j. each_segment (λ k h. IsLogFile k → slice_index new.last k + 1 ≡ h.first + length (records_of h)) l.segments file g
        (λ mk. ap (λ n. n + 1) lasts.here ∙ added) (λ k ne mk. ap (λ n. n + 1) (lasts.others k ne) ∙ is.lasts k mk) j;
    unflushed = λ j r. each_segment (λ k h. IsLogFile k → Contains h.pending r → Contains l.rest r) l.segments file g
        (λ mk i. absurd (in_none r i)) (λ k ne mk i. is.unflushed k r mk i) j;
    in_file = ap (λ n. n + 1) number ∙ added ∙ ap (λ (h : Segment). h.first + length (records_of h)) (sym (segment_here l.segments file g))
        ∙ ap (λ (k : ℕ). ((emptied l file (log.number + 1)).segments k).first + length (records_of ((emptied l file (log.number + 1)).segments k))) (sym ring);
    in_log = number ∙ is.in_log;
  }
    where
      g : Segment
      g = record { first = log.number + 1; kept = []; pending = [] }

      moved : (P : Files → Type 0) → P (past log.disk (clock log.disk)) → P (past new.disk (clock new.disk))
      moved P h = subst (λ d. P (past d (clock d))) (sym on) h

      none : records_of (l.segments file) ≡ []
      none = no_records (records_of (l.segments file)) (sym (is.ends file m) ∙ zero)

      kept : (l.segments file).kept ≡ []
      kept = none_left (l.segments file).kept (l.segments file).pending none

      pending : (l.segments file).pending ≡ []
      pending = none_right (l.segments file).kept (l.segments file).pending none

      added : log.number + 1 ≡ g.first + length (records_of g)
      added = omega arith

      here : IsSegment (past log.disk (clock log.disk) file) g
      here = let old = is.segments file m in record {
        kept_bytes = old.kept_bytes ∙ ap (λ (rs : List Record). file_of (spelled_records rs)) kept;
        since = old.since ∙ ap (λ (rs : List Record). writes_of (length (spelled_records (l.segments file).kept)) rs) pending;
        numbers = tt;
      }

both_true : (a b : Bool) → a ≡ true → b ≡ true → (a && b) ≡ true
both_true a b e f = rw (e, f) refl

turns_when : {D : Type 0} (log : Log D) (next : ℕ) → next ≡ next_in_ring log.file.number → 262144 ≤ end_of_log log → slice_index log.ends next ≡ 0 → turns log ≡ true
turns_when log next e full zero =
    let there : slice_index log.ends (next_in_ring log.file.number) ≡ 0 = ap (slice_index log.ends) (sym e) ∙ zero in
    both_true (nat_le 262144 (end_of_log log)) (slice_index log.ends (next_in_ring log.file.number) == 0) (grind (arith, nat_tests)) (grind (arith, nat_tests))

-- the next file becomes current
pub turned_next : {D : Type 0} (tells : D → Bool) (clock : D → ℕ) (past : D → ℕ → Files) (log new : Log D) (l : Ledger) (rows : List Row) (f : ℕ) → IsLog tells clock past log l rows f
    → new.disk ≡ log.disk → new.gate ≡ log.gate → new.file.number ≡ next_in_ring log.file.number → new.number ≡ log.number → new.ends ≡ log.ends → new.synced ≡ log.synced → SetTo log.last new.last new.file.number log.number
    → 262144 ≤ end_of_log log → slice_index log.ends new.file.number ≡ 0 → IsLog tells clock past new (turned log l) rows f
turned_next tells clock past log new l rows f is on gate ring number ends synced lasts full zero =
    subst (λ b. IsLog tells clock past new (if b then emptied l (next_in_ring log.file.number) (log.number + 1) else l) rows f) (sym (turns_when log new.file.number ring full zero))
    (subst (λ j. IsLog tells clock past new (emptied l j (log.number + 1)) rows f) ring
    (turned_log tells clock past log new new.file.number l rows f new.file.in_ring is on gate refl number ends synced lasts zero))
