-- The scan of a log file on its way to a number.
use Rattle.std.proofs.Common.{◌≡◌, ℕ, ◌<◌, Bool, List, Option, Some, None, refl, sym, ◌∙◌, ap, subst, arith}
use Rattle.std.specs.Prelude.{IfSome, IsTrue}
use Rattle.pdb_disk.specs.Files.{FileBytes, Files}
use Rattle.pdb_record.specs.declared.heads.Head.{Head}
use Rattle.pdb_recover.specs.Scanning.{HasScanned, OnlyReads}
use Rattle.pdb_recover.specs.declared.cursor.Cursor.{Cursor}
use Rattle.pdb_recover.specs.inner.ScanSteps.{Steps}
use Rattle.pdb_recover.proofs.ReadBytes.{same_files}

-- how far it has come, where it began with this cursor
pub record Seeks {D : Type 0} (tells : D → Bool) (clock : D → ℕ) (past : D → ℕ → Files) (read_count fault_count : D → ℕ) (start now : D) (begun cursor : Cursor) (number : ℕ) : Type 0 where
  pub reads : OnlyReads tells clock past read_count start now
  pub faults : fault_count now ≡ fault_count start
  pub file : cursor.file ≡ begun.file
  pub scanned : IsTrue (tells start) → HasScanned (past start (clock start) begun.file).read begun number → HasScanned (past start (clock start) begun.file).read cursor number

pub seeks_none : {D : Type 0} (tells : D → Bool) (clock : D → ℕ) (past : D → ℕ → Files) (read_count fault_count : D → ℕ) (start : D) (begun : Cursor) (number : ℕ)
    → Seeks tells clock past read_count fault_count start start begun begun number
seeks_none tells clock past read_count fault_count start begun number = record {
  reads = record { time = refl; unchanged = refl; told = λ t. t; reads = omega arith };
  faults = refl;
  file = refl;
  scanned = λ told h. h;
}

-- what a step from there says of the file as at the start
pub step_seeks : {D : Type 0} (tells : D → Bool) (clock : D → ℕ) (past : D → ℕ → Files) (read_count fault_count : D → ℕ) (start now : D) (begun cursor : Cursor) (number : ℕ)
    → Seeks tells clock past read_count fault_count start now begun cursor number → (next : Cursor) (k : ℕ) (o : Option (List ℕ))
    → (IsTrue (tells now) → (n : ℕ) → HasScanned (past now (clock now) cursor.file).read cursor n → Steps (past now (clock now) cursor.file).read next n k o)
    → IsTrue (tells start) → HasScanned (past start (clock start) begun.file).read begun number → Steps (past start (clock start) begun.file).read next number k o
step_seeks tells clock past read_count fault_count start now begun cursor number s next k o step told h =
    let same : past now (clock now) ≡ past start (clock start) = same_files clock past start now s.reads.time s.reads.unchanged in
    let c : (past now (clock now) cursor.file).read ≡ (past start (clock start) begun.file).read
    = ap (λ (x : Files). (x cursor.file).read) same ∙ ap (λ f. (past start (clock start) f).read) s.file in
    subst (λ (x : FileBytes). HasScanned x cursor number → Steps x next number k o) c (step (s.reads.told told) number) (s.scanned told h)

no_some : {T : Type 0} (P : T → Type 0) (o : Option T) → ((t : T) → o ≡ Some t → ⊥) → IfSome o P
no_some P None none = tt
no_some P (Some t) none = absurd (none t refl)

-- no header is higher where there is none
pub none_higher : (o : Option Head) (n : ℕ) → ((h : Head) → o ≡ Some h → ⊥) → IfSome o (λ h. n < h.number)
none_higher o n none = no_some (λ h. n < h.number) o none

pub some_higher : (o : Option Head) (n : ℕ) (h : Head) → o ≡ Some h → n < h.number → IfSome o (λ g. n < g.number)
some_higher o n h e l = subst (λ p. IfSome p (λ g. n < g.number)) (sym e) l

-- a step to nothing more
pub stepped_out : (c : FileBytes) (next : Cursor) (n k : ℕ) (o : Option (List ℕ)) → ((b : List ℕ) → o ≡ Some b → ⊥) → Steps c next n k o → HasScanned c next n × IfSome next.head (λ h. n < h.number)
stepped_out c next n k None none s = (s.0, subst (λ p. IfSome p (λ h. n < h.number)) (sym s.1) tt)
stepped_out c next n k (Some b) none s = absurd (none b refl)

pub stepped_on : (c : FileBytes) (next : Cursor) (n k : ℕ) (o : Option (List ℕ)) (b : List ℕ) → o ≡ Some b → Steps c next n k o → Steps c next n k (Some b)
stepped_on c next n k o b e s = subst (Steps c next n k) e s
