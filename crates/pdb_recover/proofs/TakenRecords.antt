-- The records that recovery takes, one after the other.
use Rattle.std.proofs.Common.{◌≡◌, ℕ, ◌+◌, List, [], ◌∷◌, ◌++◌, Some, None, All, length, refl, sym, ◌∙◌, ap, subst, arith}
use Rattle.pdb_cells.specs.Content.{Content}
use Rattle.pdb_cells.specs.Puts.{IsWholeCell, NoCellTwice, laid, puts_after}
use Rattle.pdb_cells.specs.declared.Put.{Put}
use Rattle.pdb_cells.proofs.Laying.{laid-after}
use Rattle.pdb_cells.proofs.Placing.{once_after}
use Rattle.pdb_disk.specs.Files.{Image}
use Rattle.pdb_model.specs.Logs.{AreRecovered, IsFound, IsGate, gate_file}
use Rattle.pdb_model.specs.Records.{IsRecord, Record, record_bytes}
use Rattle.pdb_model.specs.Recovery.{commits_after, laid_over}
use Rattle.pdb_model.specs.declared.gate_slot.GateSlot.{GateSlot}
use Rattle.pdb_recover.specs.Scanning.{HaveScanned, IsPending, puts_all}
use Rattle.pdb_recover.specs.declared.log_files.LogFiles.{LogFiles}
use Rattle.pdb_recover.specs.inner.NextRecords.{FindsNext}

-- these records count, the first of the number after this one and each other one of the number after the one before it
abbrev pub AreFound : Image → ℕ → List Record → Type 0
AreFound x number [] = Unit {0}
AreFound x number (r ∷ rs) = IsFound x r × (r.number ≡ number + 1) × AreFound x (number + 1) rs

-- The records from the one after this number on are taken up to the one of the last number, the scans have come past them, and the puts
-- are the newest of each of their cells.
pub record HaveTaken (x : Image) (logs : LogFiles) (first before last count : ℕ) (puts : List Put) : Type 0 where
  pub taken : List Record
  pub found : AreFound x first taken
  pub scanned : HaveScanned x logs (last + 1)
  pub number : last ≡ first + length taken
  pub commits : count ≡ commits_after before taken
  pub cells : (cells : Content) → laid puts cells ≡ laid_over taken cells
  pub once : NoCellTwice puts

-- ---- puts of a record after others

laid_puts : (ps qs : List Put) (cells : Content) → NoCellTwice ps → laid (puts_all ps qs) cells ≡ laid qs (laid ps cells)
laid_puts ps [] cells once = refl
laid_puts ps (q ∷ qs) cells once = laid_puts (puts_after ps q) qs cells (once_after ps q once) ∙ ap (laid qs) (laid-after ps q cells once)

once_puts : (ps qs : List Put) → NoCellTwice ps → NoCellTwice (puts_all ps qs)
once_puts ps [] once = once
once_puts ps (q ∷ qs) once = once_puts (puts_after ps q) qs (once_after ps q once)

-- ---- one record more

laid_over_last : (rs : List Record) (r : Record) (cells : Content) → laid_over (rs ++ r ∷ []) cells ≡ laid r.puts (laid_over rs cells)
laid_over_last [] r cells = refl
laid_over_last (s ∷ rs) r cells = laid_over_last rs r (laid s.puts cells)

commits_last : (n : ℕ) (rs : List Record) (r : Record) → commits_after n (rs ++ r ∷ []) ≡ r.commits
commits_last n [] r = refl
commits_last n (s ∷ rs) r = commits_last s.commits rs r

length_last : (rs : List Record) (r : Record) → length (rs ++ r ∷ []) ≡ length rs + 1
length_last [] r = refl
length_last (s ∷ rs) r = let e = length_last rs r in omega (arith, e)

found_last : (x : Image) (n : ℕ) (rs : List Record) (r : Record) → AreFound x n rs → IsFound x r → r.number ≡ n + length rs + 1 → AreFound x n (rs ++ r ∷ [])
found_last x n [] r h f e = (f, omega (arith, e), tt)
found_last x n (s ∷ rs) r h f e = (h.0, h.1, found_last x (n + 1) rs r h.2 f (omega (arith, e)))

-- before the first record
pub taken_none : (x : Image) (logs : LogFiles) (n commits : ℕ) → HaveScanned x logs (n + 1) → HaveTaken x logs n commits n commits []
taken_none x logs n commits s = record {
  taken = [];
  found = tt;
  scanned = s;
  number = omega arith;
  commits = refl;
  cells = λ cells. refl;
  once = tt;
}

pub taken_next : (x : Image) (logs next : LogFiles) (first before number commits later : ℕ) (puts new : List Put) (b : List ℕ)
    → HaveTaken x logs first before number commits puts → FindsNext x next number (Some b)
    → ((r : Record) → IsRecord r → b ≡ record_bytes r → later ≡ r.commits)
    → ((r : Record) → IsRecord r → b ≡ record_bytes r → new ≡ puts_all puts r.puts)
    → HaveTaken x next first before (number + 1) later new
taken_next x logs next first before number commits later puts new b t f counted lays =
    let r = f.0.0 in
    let is : IsRecord r = f.0.1.scanned.whole.is in
    let at = t.number in
    let number_is = f.0.2 in
    let e : new ≡ puts_all puts r.puts = lays r is f.0.3 in
    record {
      taken = t.taken ++ r ∷ [];
      found = found_last x first t.taken r t.found f.0.1 (omega (arith, at, number_is));
      scanned = f.1;
      number = let len = length_last t.taken r in omega (arith, at, len);
      commits = counted r is f.0.3 ∙ sym (commits_last before t.taken r);
      cells = λ cells. ap (λ ps. laid ps cells) e ∙ laid_puts puts r.puts cells t.once ∙ ap (laid r.puts) (t.cells cells) ∙ sym (laid_over_last t.taken r cells);
      once = subst NoCellTwice (sym e) (once_puts puts r.puts t.once);
    }

-- ---- and no more

recovered : (x : Image) (n m : ℕ) (rs : List Record) → AreFound x n rs → m ≡ n + length rs → ((r : Record) → IsFound x r → r.number ≡ m + 1 → ⊥) → AreRecovered x n rs
recovered x n m [] h e none = λ r f number. none r f (omega (arith, e, number))
recovered x n m (s ∷ rs) h e none = (h.0, h.1, recovered x (n + 1) m rs h.2 (omega (arith, e)) none)

pub is_pending : (x : Image) (logs next : LogFiles) (gate : GateSlot) (number commits : ℕ) (puts all : List Put) → IsGate (x gate_file) gate
    → HaveTaken x logs gate.number gate.commits number commits puts → FindsNext x next number None → all ≡ puts → All IsWholeCell all
    → IsPending x (record { gate = gate; number = number; commits = commits; puts = all })
is_pending x logs next gate number commits puts all is t none e whole = record {
  gate = is;
  taken = t.taken;
  are_taken = recovered x gate.number number t.taken t.found t.number none;
  number = t.number;
  commits = t.commits;
  cells = λ cells file index. ap (λ (c : Content). c file index) (ap (λ ps. laid ps cells) e ∙ t.cells cells);
  once = subst NoCellTwice (sym e) t.once;
  whole = whole;
}
