-- All log files, once each was cleared.
use Rattle.std.proofs.Common.{◌≡◌, ⊎_elim, ℕ, ◌+◌, ◌≤◌, sym, subst, arith}
use Rattle.std.proofs.lemmas.Bool.{cases_eq}
use Rattle.pdb_disk.specs.Files.{Files}
use Rattle.pdb_model.specs.Recovery.{Row}
use Rattle.pdb_model.specs.declared.gate_slot.GateSlot.{GateSlot}
use Rattle.pdb_log.specs.Ledger.{IsEmptyFile}
use Rattle.pdb_recover.specs.Recovering.{IsReady, IsRecovered}

-- the files up to this one are empty
abbrev EmptyUpTo : Files → ℕ → Type 0
EmptyUpTo fs n = (j : ℕ) → 1 ≤ j → j ≤ n → IsEmptyFile (fs j)

one_more : (n m : ℕ) (old new : Files) → m ≡ n + 1 → EmptyUpTo old n → IsEmptyFile (new m) → ((j : ℕ) → (j ≡ m → ⊥) → new j ≡ old j) → EmptyUpTo new m
one_more n m old new e before here others j low high = ⊎_elim
    (λ same. subst (λ k. IsEmptyFile (new k)) (sym same) here)
    (λ ne. subst IsEmptyFile (sym (others j ne)) (before j low (omega (arith, e, high, ne))))
    (cases_eq j m)

pub all_cleared : (none first second third fourth : Files) (g : GateSlot) (row : Row) → IsEmptyFile (first 1) → ((j : ℕ) → (j ≡ 1 → ⊥) → first j ≡ none j)
    → IsEmptyFile (second 2) → ((j : ℕ) → (j ≡ 2 → ⊥) → second j ≡ first j) → IsEmptyFile (third 3) → ((j : ℕ) → (j ≡ 3 → ⊥) → third j ≡ second j)
    → IsEmptyFile (fourth 4) → ((j : ℕ) → (j ≡ 4 → ⊥) → fourth j ≡ third j) → IsReady fourth g row → IsRecovered fourth g row
all_cleared none first second third fourth g row e1 o1 e2 o2 e3 o3 e4 o4 is = record {
  gate = is.gate;
  settled = is.settled;
  empty = λ j m. four j m.0 m.1;
  cells = is.cells;
  commits = is.commits;
}
  where
    one : EmptyUpTo first 1
    one = one_more 0 1 none first (omega arith) (λ j low high. absurd (omega (arith, low, high))) e1 o1

    two : EmptyUpTo second 2
    two = one_more 1 2 first second (omega arith) one e2 o2

    three : EmptyUpTo third 3
    three = one_more 2 3 second third (omega arith) two e3 o3

    four : EmptyUpTo fourth 4
    four = one_more 3 4 third fourth (omega arith) three e4 o4
