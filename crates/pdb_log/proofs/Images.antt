-- Each image of a log that stands in its files is safe.
use Rattle.std.proofs.Common.{◌≡◌, ◌⊎◌, inl, inr, ⊎_elim, ℕ, zero, suc, ◌+◌, ◌≤◌, ◌<◌, List, [], ◌∷◌, ◌++◌, length, take, refl, sym, ◌∙◌, ap, subst, arith}
use Rattle.std.specs.Prelude.{Contains, slice_get, Some}
use Rattle.std.proofs.lemmas.Bool.{cases_eq, cases_lt}
use Rattle.std.proofs.lemmas.List.Elements.{Contains-append_left}
use Rattle.pdb_disk.specs.Files.{FileBytes, Step, FileState, Files, Image, AllSpare, IsFileImage, IsImage}
use Rattle.pdb_model.specs.Logs.{IsFound, IsGate, IsLogFile, IsScanned, gate_file, most_in_log}
use Rattle.pdb_model.specs.Records.{Record}
use Rattle.pdb_model.specs.Recovery.{Laid, Row, Safe, StoodThere, TearClear}
use Rattle.pdb_model.specs.Gates.{gate_at, gate_bytes, gate_place}
use Rattle.pdb_model.specs.Logs.{HasGate}
use Rattle.pdb_model.specs.declared.gate_slot.GateSlot.{GateSlot}
use Rattle.pdb_log.specs.Ledger.{AreRows, IsKeptGate, Ledger, Segment, StandsInFiles, records_of, spelled_records}
use Rattle.pdb_log.proofs.Members.{In, to_in, from_in, in_nothing, numbered_from, same_member}
use Rattle.pdb_log.proofs.Segments.{scan_of}
use Rattle.pdb_log.proofs.Taken.{taken}

-- what is synced in each log file ends within a log file's bytes
abbrev pub KeptWithin : Ledger → Type 0
KeptWithin l = (j : ℕ) → IsLogFile j → length (spelled_records (l.segments j).kept) ≤ most_in_log

-- some record of a number
abbrev Numbers : List Record → ℕ → Type 0
Numbers rs n = (q : Record) × In rs q × (q.number ≡ n)

number_in : (rs : List Record) (n : ℕ) → Numbers rs n ⊎ ((q : Record) → In rs q → q.number ≡ n → ⊥)
number_in [] n = inr (λ q i e. i)
number_in (a ∷ rs) n = ⊎_elim
    (λ e. inl (a, inl (λ i. a), e))
    (λ ne. ⊎_elim
    (λ h. inl (h.0, inr h.1, h.2))
    (λ out. inr (λ q i e. ⊎_elim (λ s. ne (ap (λ (t : Record). t.number) s ∙ e)) (λ j. out q j e) i))
    (number_in rs n))
    (cases_eq a.number n)

-- what is to be known of what a crash leaves of a log file
record Shown (c : FileBytes) (l : Ledger) (j : ℕ) : Type 0 where
  sound : (r : Record) → IsScanned c r → l.gate.number < r.number → Contains (records_of (l.segments j)) r
  decides : (n : ℕ) → l.gate.number < n → ((q : Record) × IsScanned c q × (q.number ≡ n)) ⊎ ((q : Record) → IsScanned c q → q.number ≡ n → ⊥)
  kept : (r : Record) → Contains (l.segments j).kept r → IsScanned c r

kept_none : (g : Segment) (r : Record) → records_of g ≡ [] → Contains g.kept r → ⊥
kept_none g r none i = in_nothing (records_of g) r none (Contains-append_left g.kept g.pending r i)

module _ (fs : Files) (l : Ledger) (is : StandsInFiles fs l) (low : KeptWithin l) (x : Image) (image : IsImage fs x) (clear : TearClear fs x) where
  shown : (j : ℕ) → IsLogFile j → Shown (x j) l j
  shown j m = ⊎_elim
      (λ segment.
      let s = scan_of (fs j) (l.segments j) (x j) segment (low j m) (image j) (λ n before end r. clear.records j n before end r m) in
      record {
        sound = λ r h more. from_in (records_of (l.segments j)) r (s.listed r (s.sound r h));
        decides = λ n more. ⊎_elim
            (λ h. inl (h.0, s.each h.0 h.1, h.2))
            (λ out. inr (λ q h e. out q (s.sound q h) e))
            (number_in s.found n);
        kept = s.kept;
      })
      (λ spent. record {
        sound = λ r h more. let le = spent.0 (x j) (image j) (λ n before end r. clear.records j n before end r m) r h in absurd (omega (arith, le, more));
        decides = λ n more. inr (λ q h e. let le = spent.0 (x j) (image j) (λ n before end r. clear.records j n before end r m) q h in omega (arith, le, more, e));
        kept = λ r i. absurd (kept_none (l.segments j) r spent.1 i);
      })
      (is.segments j m)

  sound_in : (j : ℕ) (r : Record) → IsLogFile j → IsScanned (x j) r → l.gate.number < r.number → Contains (l.flushed ++ l.rest) r
  sound_in j r m h more = let s = shown j m in is.into j r m (s.sound r h more) more

  -- the lowest file with a record of a number, up to some file
  abbrev Lowest : ℕ → ℕ → Type 0
  Lowest n b = (j : ℕ) × IsLogFile j × (j ≤ b) × ((q : Record) × IsScanned (x j) q × (q.number ≡ n)) × ((i : ℕ) (s : Record) → IsLogFile i → i < j → IsScanned (x i) s → s.number ≡ n → ⊥)

  abbrev NoneUpTo : ℕ → ℕ → Type 0
  NoneUpTo n b = (j : ℕ) (q : Record) → IsLogFile j → j ≤ b → IsScanned (x j) q → q.number ≡ n → ⊥

  moved : (i j n : ℕ) (q : Record) → i ≡ j → ((s : Record) → IsScanned (x i) s → s.number ≡ n → ⊥) → IsScanned (x j) q → q.number ≡ n → ⊥
  moved i j n q e out h m = out q (subst (λ k. IsScanned (x k) q) (sym e) h) m

  lowest : (n b : ℕ) → l.gate.number < n → b ≤ 4 → Lowest n b ⊎ NoneUpTo n b
  lowest n zero more le = inr (λ j q m l h e. let p = m.0 in omega (arith, p, l))
  lowest n (suc b) more le = ⊎_elim
      (λ found. inl (found.0, found.1, (let q = found.2 in omega (arith, q)), found.3, found.4))
      (λ none. ⊎_elim
      (λ here. inl (suc b, m, omega arith, here, λ i s mi less h e. none i s mi (omega (arith, less)) h e))
      (λ out. inr (λ j q mj l h e. ⊎_elim
      (λ less. none j q mj (omega (arith, less)) h e)
      (λ ge. moved (suc b) j n q (omega (arith, ge, l)) out h e)
      (cases_lt j (suc b))))
      (let s = shown (suc b) m in s.decides n more))
      (lowest n b more (omega (arith, le)))
    where
      m : IsLogFile (suc b)
      m = (omega arith, le)

  after_gate : (r : Record) → Contains (l.flushed ++ l.rest) r → l.gate.number < r.number
  after_gate r i = let le = numbered_from (l.gate.number + 1) (l.flushed ++ l.rest) r is.numbers i in omega (arith, le)

  -- a record of the log is found, or no scan comes to it
  finds : (r : Record) → Contains (l.flushed ++ l.rest) r → IsFound x r ⊎ ((j : ℕ) → IsLogFile j → IsScanned (x j) r → ⊥)
  finds r i = ⊎_elim
      (λ low_one.
      let q = low_one.3 in
      let same : q.0 ≡ r = let e = q.2 in
      same_member (l.gate.number + 1) (l.flushed ++ l.rest) q.0 r is.numbers (sound_in low_one.0 q.0 low_one.1 q.1 (let m = after_gate r i in omega (arith, e, m))) i e in
      inl (record { file = low_one.0; is_log = low_one.1; scanned = subst (IsScanned (x low_one.0)) same q.1; lowest = low_one.4 }))
      (λ none. inr (λ j m h. none j r m m.1 h refl))
      (lowest r.number 4 (after_gate r i) (omega arith))

  found_in : (r : Record) → IsFound x r → l.gate.number < r.number → In (l.flushed ++ l.rest) r
  found_in r h more = to_in (l.flushed ++ l.rest) r (sound_in h.file r h.is_log h.scanned more)

  flushed_found : (r : Record) → In l.flushed r → IsFound x r
  flushed_found r i =
      let k = is.safe r (from_in l.flushed r i) in
      ⊎_elim (λ h. h) (λ out. absurd (out k.0 k.1 (let s = shown k.0 k.1 in s.kept r k.2)))
      (finds r (Contains-append_left l.flushed l.rest r (from_in l.flushed r i)))

  image_holds : (rows : List Row) (f : ℕ) → AreRows rows f fs l → IsGate (x gate_file) l.gate → (k : ℕ) × (row : Row) × (f ≤ k) × (slice_get rows k ≡ Some row) × Laid x row
  image_holds rows f are gate =
      let t = taken x l.flushed l.rest l.gate.number is.numbers found_in flushed_found
      (λ r i. ⊎_elim (λ h. inl h) (λ out. inr (λ h. out h.file h.is_log h.scanned)) (finds r (from_in (l.flushed ++ l.rest) r i))) in
      let row = are t.0 t.1 x image in (
        f + t.0,
        row.row,
        omega arith,
        row.there,
        record {
          gate = l.gate;
          is_gate = gate;
          taken = l.flushed ++ take t.0 l.rest;
          are_taken = t.2;
          cells = row.cells;
          commits = row.commits;
        },
      )

-- a gate that is synced is in force in each image
gate_in : (s : FileState) (g : GateSlot) (c : FileBytes) → IsKeptGate s g → IsFileImage s c → IsGate c g
gate_in s g c has image = subst (λ (d : FileBytes). IsGate d g) (sym same) has.whole
  where
    same : c ≡ s.kept
    same = λ i k. image k (subst (λ (ss : List Step). AllSpare ss k) (sym has.synced) tt) i

-- the one lemma from how the log lies to what a crash may leave
pub stands_safe : (rows : List Row) (f : ℕ) (fs : Files) (l : Ledger) → IsKeptGate (fs gate_file) l.gate → StandsInFiles fs l → KeptWithin l → AreRows rows f fs l → Safe rows f fs
stands_safe rows f fs l has is low are x image clear = image_holds fs l is low x image clear rows f are (gate_in (fs gate_file) l.gate (x gate_file) has (image gate_file))

-- the gate slots that are whole in what a crash leaves stood there
abbrev pub GateClear : FileState → FileBytes → Type 0
GateClear s c = (g : GateSlot) → HasGate c g → StoodThere s (gate_at (gate_place g)) (gate_bytes g)

-- the same while either of two gates may be in force
pub either_safe : (rows : List Row) (f : ℕ) (fs : Files) (l m : Ledger) → StandsInFiles fs l → KeptWithin l → AreRows rows f fs l → StandsInFiles fs m → KeptWithin m → AreRows rows f fs m
    → ((c : FileBytes) → IsFileImage (fs gate_file) c → GateClear (fs gate_file) c → IsGate c l.gate ⊎ IsGate c m.gate) → Safe rows f fs
either_safe rows f fs l m is low are is2 low2 are2 gates x image clear = ⊎_elim
    (λ g. image_holds fs l is low x image clear rows f are g)
    (λ g. image_holds fs m is2 low2 x image clear rows f are2 g)
    (gates (x gate_file) (image gate_file) clear.gates)
