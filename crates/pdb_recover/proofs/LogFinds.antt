-- The record of a number that counts, from the scans of the log files.
use Rattle.std.proofs.Common.{◌≡◌, ⊎_elim, ℕ, ◌+◌, ◌<◌, List, Option, Some, None, refl, ◌∙◌, ap, subst, arith}
use Rattle.std.specs.Prelude.{Bool, IfOk, IsTrue, MatchOption, Ok, Err, Result}
use Rattle.std.proofs.lemmas.Bool.{cases_lt}
use Rattle.pdb_disk.specs.Files.{FileBytes, Files, Image}
use Rattle.pdb_model.specs.Logs.{IsFound, IsLogFile, IsScanned}
use Rattle.pdb_model.specs.Records.{Record, record_bytes}
use Rattle.pdb_recover.specs.Scanning.{HasScanned, OnlyReads}
use Rattle.pdb_recover.specs.declared.cause.OpenCause.{OpenCause}
use Rattle.pdb_recover.specs.declared.cursor.Cursor.{Cursor}
use Rattle.pdb_recover.proofs.ReadBytes.{same_files}

-- what the scan of one file says of a number
abbrev pub Sought : FileBytes → ℕ → Option (List ℕ) → Type 0
Sought c n o = MatchOption o ((r : Record) → IsScanned c r → r.number ≡ n → ⊥) (λ b. (r : Record) × IsScanned c r × (r.number ≡ n) × (b ≡ record_bytes r))

-- the log files below this one have no record of the number
abbrev pub NoneBelow : Image → ℕ → ℕ → Type 0
NoneBelow x n k = (i : ℕ) (s : Record) → IsLogFile i → i < k → IsScanned (x i) s → s.number ≡ n → ⊥

pub below_first : (x : Image) (n : ℕ) → NoneBelow x n 1
below_first x n i s log low scan e = let l = log.0 in omega (arith, l, low)

pub below_next : (x : Image) (n k : ℕ) (o : Option (List ℕ)) → ((b : List ℕ) → o ≡ Some b → ⊥) → Sought (x k) n o → NoneBelow x n k → NoneBelow x n (k + 1)
below_next x n k o none sought before i s log low scan e = ⊎_elim
    (λ l. before i s log l scan e)
    (λ ge. here o none sought s (subst (λ j. IsScanned (x j) s) (omega (arith, low, ge)) scan) e)
    (cases_lt i k)
  where
    here : (p : Option (List ℕ)) → ((b : List ℕ) → p ≡ Some b → ⊥) → Sought (x k) n p → (r : Record) → IsScanned (x k) r → r.number ≡ n → ⊥
    here None gone h = h
    here (Some b) gone h = absurd (gone b refl)

pub found_at : (x : Image) (n k : ℕ) (o : Option (List ℕ)) (b : List ℕ) → IsLogFile k → o ≡ Some b → Sought (x k) n o → NoneBelow x n k
    → (r : Record) × IsFound x r × (r.number ≡ n) × (b ≡ record_bytes r)
found_at x n k o b log e sought before =
    let h = subst (Sought (x k) n) e sought in
    (h.0, record { file = k; is_log = log; scanned = h.1; lowest = λ j s other low scan m. before j s other low scan (m ∙ h.2) }, h.2, h.3)

-- the last one answers for all
pub found_last : (x : Image) (n : ℕ) (o : Option (List ℕ)) → Sought (x 4) n o → NoneBelow x n 4
    → MatchOption o ((r : Record) → IsFound x r → r.number ≡ n → ⊥) (λ b. (r : Record) × IsFound x r × (r.number ≡ n) × (b ≡ record_bytes r))
found_last x n None sought before = λ r f e. let high = f.is_log.1 in ⊎_elim
    (λ l. before f.file r f.is_log l f.scanned e)
    (λ ge. sought r (subst (λ j. IsScanned (x j) r) (omega (arith, high, ge)) f.scanned) e)
    (cases_lt f.file 4)
found_last x n (Some b) sought before = found_at x n 4 (Some b) b (omega arith, omega arith) refl sought before

-- what is said of a file after reads is said of it as at the start
pub as_begun : (P : FileBytes → Type 0) (x y : Files) (f j : ℕ) → y ≡ x → f ≡ j → P (y f).read → P (x j).read
as_begun P x y f j same file h = subst P (ap (λ (z : Files). (z f).read) same ∙ ap (λ k. (x k).read) file) h

-- whatever its answer is
pub found_by_last : (x : Image) (n : ℕ) (r : Result (Option (List ℕ)) OpenCause) → IfOk r (Sought (x 4) n) → NoneBelow x n 4
    → IfOk r (λ o. MatchOption o ((s : Record) → IsFound x s → s.number ≡ n → ⊥) (λ b. (s : Record) × IsFound x s × (s.number ≡ n) × (b ≡ record_bytes s)))
found_by_last x n (Ok o) sought before = found_last x n o sought before
found_by_last x n (Err e) sought before = tt

-- what a scan after calls that only read says of its file is said of it as at the start
pub begun_scan : {D : Type 0} (tells : D → Bool) (clock : D → ℕ) (past : D → ℕ → Files) (read_count : D → ℕ) (old new : D) (P : FileBytes → Type 0) (cursor : Cursor) (j n : ℕ)
    → OnlyReads tells clock past read_count old new → cursor.file ≡ j
    → (IsTrue (tells new) → HasScanned (past new (clock new) cursor.file).read cursor n → P (past new (clock new) cursor.file).read)
    → IsTrue (tells old) → HasScanned (past old (clock old) j).read cursor n → P (past old (clock old) j).read
begun_scan tells clock past read_count old new P cursor j n reads file says told h = as_begun
    (λ f. HasScanned f cursor n → P f) (past old (clock old)) (past new (clock new)) cursor.file j
    (same_files clock past old new reads.time reads.unchanged) file (says (reads.told told)) h
