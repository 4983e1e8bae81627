-- Once the gate has passed all records, a clean leaves the log files without records.
use Rattle.std.proofs.Common.{◌≡◌, ◌⊎◌, inl, inr, ⊎_elim, ℕ, zero, suc, ◌+◌, ◌≤◌, ◌<◌, ◌&&◌, nat_le, nat_lt, Bool, true, false, List, [], ◌∷◌, ◌++◌, length, get_or, if◌then◌else◌, refl, sym, ◌∙◌, ap, subst, arith}
use Rattle.std.specs.Prelude.{Contains}
use Rattle.std.proofs.lemmas.Bool.{cases_eq, cases_lt}
use Rattle.std.proofs.lemmas.Bool.Decides.{nat_tests}
use Rattle.pdb_disk.specs.Files.{Files}
use Rattle.pdb_log.specs.Ledger.{AreNumbered, Ledger, Segment, cleared, emptied, files_cleared, has_passed, records_of}
use Rattle.pdb_log.specs.Standing.{IsLog}
use Rattle.pdb_log.specs.declared.log.Log.{Log}
use Rattle.pdb_log.proofs.Ledgers.{segment_else, segment_here}
use Rattle.pdb_log.proofs.Members.{in_nothing}
use Rattle.pdb_model.specs.Logs.{IsLogFile}
use Rattle.pdb_model.specs.Records.{Record}
use Rattle.pdb_model.specs.Recovery.{Row}
use Rattle.pdb_redo.proofs.Enacted.{numbered_at}

-- a file has no records, or some that the gate hasn't passed
abbrev Kept : Segment → ℕ → Type 0
Kept g n = (records_of g ≡ []) ⊎ (has_passed g n ≡ false)

abbrev At : Ledger → ℕ → Type 0
At l j = Kept (l.segments j) l.gate.number

one : (t : Bool) (l : Ledger) (file n : ℕ) → has_passed (l.segments file) l.gate.number ≡ t → At (if t then emptied l file n else l) file
one true l file n e = inl (ap records_of (segment_here l.segments file (record { first = n; kept = []; pending = [] })))
one false l file n e = inr e

other : (t : Bool) (l : Ledger) (file n j : ℕ) → (j ≡ file → ⊥) → At l j → At (if t then emptied l file n else l) j
other true l file n j ne h = subst (λ (g : Segment). Kept g l.gate.number) (sym (segment_else l.segments file j (record { first = n; kept = []; pending = [] }) ne)) h
other false l file n j ne h = h

after_one : (l : Ledger) (file n : ℕ) → At (cleared l file n) file
after_one l file n = one (has_passed (l.segments file) l.gate.number) l file n refl

still : (l : Ledger) (file n j : ℕ) → (j ≡ file) ⊎ At l j → At (cleared l file n) j
still l file n j h = ⊎_elim
    (λ e. subst (At (cleared l file n)) (sym e) (after_one l file n))
    (λ ne. ⊎_elim (λ e. absurd (ne e)) (other (has_passed (l.segments file) l.gate.number) l file n j ne) h)
    (cases_eq j file)

all_cleared : (l : Ledger) (n j : ℕ) → IsLogFile j → At (files_cleared l n) j
all_cleared l n j m = still (cleared (cleared (cleared l 1 n) 2 n) 3 n) 4 n j (⊎_elim inl (λ d. inr (still (cleared (cleared l 1 n) 2 n) 3 n j (⊎_elim inl (λ c. inr
    (still (cleared l 1 n) 2 n j (⊎_elim inl (λ b. inr (still l 1 n j (inl (let low = m.0 in let high = m.1 in omega (arith, low, high, b, c, d))))) (cases_eq j 2)))) (cases_eq j 3)))) (cases_eq j 4))

passed_true : (k first n : ℕ) → 0 < k → first + k ≤ n + 1 → (nat_lt 0 k && nat_le (first + k) (n + 1)) ≡ true
passed_true k first n some low =
    let a : nat_lt 0 k ≡ true = grind (arith, nat_tests) in
    let b : nat_le (first + k) (n + 1) ≡ true = grind (arith, nat_tests) in
    rw (a, b) refl

none_there : (g : Segment) (n : ℕ) → AreNumbered g.first (records_of g) → ((r : Record) → Contains (records_of g) r → n < r.number → ⊥) → Kept g n → records_of g ≡ []
none_there g n numbers within (inl none) = none
none_there g n numbers within (inr kept) = by_length (records_of g) refl
  where
    by_length : (rs : List Record) → records_of g ≡ rs → records_of g ≡ []
    by_length [] e = e
    by_length (x ∷ xs) e =
        let some : length (records_of g) ≡ length xs + 1 = ap length e ∙ omega arith in
        let r : Record = get_or (records_of g) (length xs) x in
        let number = numbered_at g.first (records_of g) (length xs) x (omega (arith, some)) numbers in
        let low = within_of (length xs) x (omega (arith, some)) in
        let t = passed_true (length (records_of g)) g.first n (omega (arith, some)) (omega (arith, some, number, low)) in
        cc
      where
        same_in : (k : ℕ) (rs : List Record) (c d : Record) → k < length rs → get_or rs k c ≡ get_or rs k d
        same_in k [] c d l = absurd (omega (arith, l))
        same_in zero (y ∷ ys) c d l = refl
        same_in (suc k) (y ∷ ys) c d l = same_in k ys c d (omega (arith, l))

        same : (k : ℕ) (rs : List Record) (d : Record) → k < length rs → get_or rs k (get_or rs k d) ≡ get_or rs k d
        same k [] d l = absurd (omega (arith, l))
        same zero (y ∷ ys) d l = refl
        same (suc k) (y ∷ ys) d l = same_in k ys (get_or ys k d) d (omega (arith, l))

        within_of : (k : ℕ) (d : Record) → k < length (records_of g) → (get_or (records_of g) k d).number ≤ n
        within_of k d l = ⊎_elim (λ high. absurd (within (get_or (records_of g) k d) (k, l, same k (records_of g) d l) high)) (λ le. le) (cases_lt n (get_or (records_of g) k d).number)

pub none_left : {D : Type 0} (tells : D → Bool) (clock : D → ℕ) (past : D → ℕ → Files) (log : Log D) (l : Ledger) (n : ℕ) (rows : List Row) (f : ℕ) → IsLog tells clock past log (files_cleared l n) rows f
    → (files_cleared l n).flushed ++ (files_cleared l n).rest ≡ [] → (j : ℕ) → IsLogFile j → records_of ((files_cleared l n).segments j) ≡ []
none_left tells clock past log l n rows f is none j m =
    none_there ((files_cleared l n).segments j) (files_cleared l n).gate.number (is.segments j m).numbers
    (λ r has past_gate. in_nothing ((files_cleared l n).flushed ++ (files_cleared l n).rest) r none (is.stands.into j r m has past_gate)) (all_cleared l n j m)
