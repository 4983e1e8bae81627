-- Which log files a clean empties.
use Rattle.std.proofs.Common.{◌≡◌, ⊎_elim, ℕ, ◌+◌, ◌≤◌, ◌<◌, ◌&&◌, Bool, true, false, List, [], ◌∷◌, ◌++◌, length, nat_le, nat_lt, if◌then◌else◌, refl, sym, ap, subst, arith}
use Rattle.std.specs.Prelude.{Contains, slice_index}
use Rattle.std.proofs.lemmas.Bool.Decides.{nat_tests}
use Rattle.std.proofs.lemmas.Bool.{cases_lt}
use Rattle.std.proofs.lemmas.List.{append-nil}
use Rattle.std.proofs.lemmas.List.Elements.{Contains-append_right}
use Rattle.pdb_disk.specs.Files.{Files}
use Rattle.pdb_model.specs.Logs.{IsLogFile}
use Rattle.pdb_model.specs.Records.{Record}
use Rattle.pdb_model.specs.Recovery.{Row}
use Rattle.pdb_log.specs.Ledger.{AreNumbered, IsPassed, Ledger, cleared, emptied, files_cleared, has_passed, records_of, spelled_records}
use Rattle.pdb_log.specs.Standing.{IsLog}
use Rattle.pdb_log.specs.declared.log.Log.{Log}
use Rattle.pdb_log.proofs.Members.{numbered_from, numbered_upto}
use Rattle.pdb_log.proofs.Syncs.{no_records}

none_if_empty : (rs : List Record) → ((r : Record) → Contains rs r → ⊥) → rs ≡ []
none_if_empty [] out = refl
none_if_empty (a ∷ rs) out = absurd (out a (0, omega arith, refl))

no_bytes : (rs : List Record) → length rs ≡ 0 → length (spelled_records rs) ≡ 0
no_bytes [] e = refl
no_bytes (r ∷ rs) e = absurd (omega (arith, e))

module _ {D : Type 0} (tells : D → Bool) (clock : D → ℕ) (past : D → ℕ → Files) (log : Log D) (file : ℕ) (l : Ledger) (rows : List Row) (f : ℕ) (m : IsLogFile file) (is : IsLog tells clock past log l rows f) where
  -- a file whose last record the gate has passed
  pub file_passed : slice_index log.last file ≤ l.gate.number → IsPassed (l.segments file) l.gate.number
  file_passed low = record { synced = none_if_empty (l.segments file).pending pending; each = each }
    where
      each : (r : Record) → Contains (records_of (l.segments file)) r → r.number ≤ l.gate.number
      each r i =
          let whole : records_of (l.segments file) ≡ records_of (l.segments file) ++ [] = sym (append-nil (records_of (l.segments file))) in
          let s = is.segments file m in
          let lt = numbered_upto (l.segments file).first (records_of (l.segments file)) [] r (subst (AreNumbered (l.segments file).first) whole s.numbers) i in
          let e = is.lasts file m in
          omega (arith, lt, e, low)

      pending : (r : Record) → Contains (l.segments file).pending r → ⊥
      pending r i =
          let more = numbered_from (l.gate.number + 1) (l.flushed ++ l.rest) r is.stands.numbers (Contains-append_right l.flushed l.rest r (is.unflushed file r m i)) in
          let less = each r (Contains-append_right (l.segments file).kept (l.segments file).pending r i) in
          omega (arith, more, less)

  both_true : (a b : Bool) → a ≡ true → b ≡ true → (a && b) ≡ true
  both_true a b e h = rw (e, h) refl

  has_some : 0 < slice_index log.ends file → 0 < length (records_of (l.segments file))
  has_some more = ⊎_elim (λ h. h) (λ le. let z = no_bytes (records_of (l.segments file)) (omega (arith, le)) in let e = is.ends file m in absurd (omega (arith, z, e, more)))
      (cases_lt 0 (length (records_of (l.segments file))))

  passed_true : 0 < slice_index log.ends file → slice_index log.last file ≤ l.gate.number → has_passed (l.segments file) l.gate.number ≡ true
  passed_true more low =
      let some = has_some more in
      let e = is.lasts file m in
      let le : (l.segments file).first + length (records_of (l.segments file)) ≤ l.gate.number + 1 = omega (arith, e, low) in
      both_true (nat_lt 0 (length (records_of (l.segments file)))) (nat_le ((l.segments file).first + length (records_of (l.segments file))) (l.gate.number + 1))
      (grind (arith, nat_tests)) (grind (arith, nat_tests))

  pub cleared_is : 0 < slice_index log.ends file → slice_index log.last file ≤ l.gate.number → cleared l file (log.number + 1) ≡ emptied l file (log.number + 1)
  cleared_is more low = ap (λ (b : Bool). if b then emptied l file (log.number + 1) else l) (passed_true more low)

  one_false : (a b : Bool) → (a ≡ true → b ≡ true → ⊥) → (a && b) ≡ false
  one_false true true h = absurd (h refl refl)
  one_false true false h = refl
  one_false false b h = refl

  passed_false : (0 < slice_index log.ends file → slice_index log.last file ≤ l.gate.number → ⊥) → has_passed (l.segments file) l.gate.number ≡ false
  passed_false out = one_false (nat_lt 0 (length (records_of (l.segments file)))) (nat_le ((l.segments file).first + length (records_of (l.segments file))) (l.gate.number + 1))
      (λ p q.
      let some : 0 < length (records_of (l.segments file)) = grind (arith, nat_tests) in
      let le : (l.segments file).first + length (records_of (l.segments file)) ≤ l.gate.number + 1 = grind (arith, nat_tests) in
      let e = is.lasts file m in
      let n = is.ends file m in
      out (⊎_elim (λ h. h) (λ z. let none = ap length (no_records (records_of (l.segments file)) (omega (arith, n, z))) in absurd (omega (arith, none, some))) (cases_lt 0 (slice_index log.ends file)))
      (omega (arith, e, le)))

  pub cleared_not : (0 < slice_index log.ends file → slice_index log.last file ≤ l.gate.number → ⊥) → l ≡ cleared l file (log.number + 1)
  cleared_not out = sym (ap (λ (b : Bool). if b then emptied l file (log.number + 1) else l) (passed_false out))

-- four files are cleared, one after the other
pub files_cleared_as : (l : Ledger) (a b c d n : ℕ) → a ≡ n → b ≡ n → c ≡ n → d ≡ n → cleared (cleared (cleared (cleared l 1 (a + 1)) 2 (b + 1)) 3 (c + 1)) 4 (d + 1) ≡ files_cleared l (n + 1)
files_cleared_as l a b c d n e f g h = λ i. cleared (cleared (cleared (cleared l 1 (e i + 1)) 2 (f i + 1)) 3 (g i + 1)) 4 (h i + 1)
