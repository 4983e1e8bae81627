-- What recovery takes is one list of records, and after it there is none.
use Rattle.std.proofs.Common.{◌≡◌, ⊎_elim, ℕ, zero, suc, ◌+◌, ◌%◌, ◌<◌, List, [], ◌∷◌, length, refl, sym, ◌∙◌, ap, ap₂, subst, arith}
use Rattle.std.proofs.lemmas.Bool.{cases_eq, cases_lt}
use Rattle.pdb_disk.specs.Files.{FileBytes, Image, StandsAt}
use Rattle.pdb_model.specs.Logs.{AreInARow, AreRecovered, IsFound, IsGate, IsLogFile, IsScanned, StandsWhole}
use Rattle.pdb_model.specs.Gates.{gate_at, gate_bytes}
use Rattle.pdb_model.specs.Records.{Record, record_bytes}
use Rattle.pdb_model.specs.declared.gate_slot.GateSlot.{GateSlot}
use Rattle.pdb_log.proofs.Bytes.{record_same}
use Rattle.pdb_log.proofs.Gates.{gate_fits, gate_same, place_of}

-- one gate is in force
pub one_gate : (c : FileBytes) (g h : GateSlot) → IsGate c g → IsGate c h → g ≡ h
one_gate c g h is too =
    let low = is.newest h too.whole in
    let high = too.newest g is.whole in
    let e : g.sequence ≡ h.sequence = omega (arith, low, high) in
    gate_same c (place_of h) g h (gate_fits c g is.whole) (gate_fits c h too.whole)
    (subst (λ n. StandsAt c (gate_at (n % 2)) (gate_bytes g)) e is.whole.there) too.whole.there

same_whole : (c : FileBytes) (at : ℕ) (r s : Record) → StandsWhole c at r → StandsWhole c at s → r ≡ s
same_whole c at r s one two = record_same c at r s one.is two.is one.there two.there

-- two scans of one file come to one record of a number
same_scanned : (c : FileBytes) (at n m : ℕ) (rs ss : List Record) (p q : ℕ) (r s : Record) → AreInARow c at n rs p → AreInARow c at m ss q
    → r.number ≡ n + length rs → s.number ≡ m + length ss → StandsWhole c p r → StandsWhole c q s → r.number ≡ s.number → r ≡ s
same_scanned c at n m [] [] p q r s one two k l hr hs e = same_whole c at r s (subst (λ u. StandsWhole c u r) one hr) (subst (λ u. StandsWhole c u s) two hs)
same_scanned c at n m [] (t ∷ ss) p q r s one two k l hr hs e =
    let first : r ≡ t = same_whole c at r t (subst (λ u. StandsWhole c u r) one hr) two.1 in
    let number = ap (λ (u : Record). u.number) first in
    let low = two.0 in
    absurd (omega (arith, number, low, l, e))
same_scanned c at n m (t ∷ rs) [] p q r s one two k l hr hs e =
    let first : s ≡ t = same_whole c at s t (subst (λ u. StandsWhole c u s) two hs) one.1 in
    let number = ap (λ (u : Record). u.number) first in
    let low = one.0 in
    absurd (omega (arith, number, low, k, e))
same_scanned c at n m (t ∷ rs) (u ∷ ss) p q r s one two k l hr hs e =
    let first : t ≡ u = same_whole c at t u one.1 two.1 in
    let place : at + length (record_bytes u) ≡ at + length (record_bytes t) = ap (λ (v : Record). at + length (record_bytes v)) (sym first) in
    same_scanned c (at + length (record_bytes t)) (n + 1) (m + 1) rs ss p q r s one.2 (subst (λ v. AreInARow c v (m + 1) ss q) place two.2) (omega (arith, k)) (omega (arith, l)) hr hs e

one_scanned : (c : FileBytes) (r s : Record) → IsScanned c r → IsScanned c s → r.number ≡ s.number → r ≡ s
one_scanned c r s h k e = same_scanned c 0 h.number k.number h.before k.before h.end k.end r s h.row k.row h.next k.next h.whole k.whole e

-- one record of a number counts
pub one_found : (x : Image) (r s : Record) → IsFound x r → IsFound x s → r.number ≡ s.number → r ≡ s
one_found x r s h k e = ⊎_elim
    (λ same. one_scanned (x k.file) r s (subst (λ j. IsScanned (x j) r) same h.scanned) k.scanned e)
    (λ ne. ⊎_elim
    (λ low. absurd (k.lowest h.file r h.is_log low h.scanned e))
    (λ ge. absurd (h.lowest k.file s k.is_log (omega (arith, ge, ne)) k.scanned (sym e)))
    (cases_lt h.file k.file))
    (cases_eq h.file k.file)

pub one_taken : (x : Image) (n : ℕ) (rs ss : List Record) → AreRecovered x n rs → AreRecovered x n ss → rs ≡ ss
one_taken x n [] [] h k = refl
one_taken x n [] (s ∷ ss) h k = absurd (h s k.0 k.1)
one_taken x n (r ∷ rs) [] h k = absurd (k r h.0 h.1)
one_taken x n (r ∷ rs) (s ∷ ss) h k =
    ap₂ (λ (t : Record) (ts : List Record). t ∷ ts) (one_found x r s h.0 k.0 (h.1 ∙ sym k.1)) (one_taken x (n + 1) rs ss h.2 k.2)

-- ---- and no more

pub none_left : (x : Image) (n m : ℕ) (rs : List Record) → m ≡ n + length rs → AreRecovered x n rs → AreRecovered x m []
none_left x n m [] e h = λ r found number. h r found (omega (arith, e, number))
none_left x n m (r ∷ rs) e h = none_left x (n + 1) m rs (omega (arith, e)) h.2

-- so a scan of no log file comes to the next number: the lowest file's record would count
none_below : (x : Image) (n b : ℕ) → AreRecovered x n [] → (j : ℕ) (r : Record) → j < b → IsLogFile j → IsScanned (x j) r → r.number ≡ n + 1 → ⊥
none_below x n zero h j r l m scan number = omega (arith, l)
none_below x n (suc b) h j r l m scan number = h r (record {
  file = j;
  is_log = m;
  scanned = scan;
  lowest = λ i s mi less found e. none_below x n b h i s (omega (arith, less, l)) mi found (e ∙ number);
}) number

pub none_scanned : (x : Image) (n : ℕ) → AreRecovered x n [] → (j : ℕ) (r : Record) → IsLogFile j → IsScanned (x j) r → r.number ≡ n + 1 → ⊥
none_scanned x n h j r m scan number = none_below x n (j + 1) h j r (omega arith) m scan number
