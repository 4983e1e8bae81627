-- What recovery takes.
use Rattle.std.proofs.Common.{◌⊎◌, inl, inr, ⊎_elim, ℕ, suc, ◌+◌, ◌≤◌, ◌<◌, List, [], ◌∷◌, ◌++◌, length, take, sym, ap, subst, arith}
use Rattle.pdb_disk.specs.Files.{Image}
use Rattle.pdb_model.specs.Logs.{AreRecovered, IsFound}
use Rattle.pdb_model.specs.Records.{Record}
use Rattle.pdb_log.specs.Ledger.{AreNumbered}
use Rattle.pdb_log.proofs.Members.{In, from_first_in}

-- what comes after the first record
rest_only : (x : Image) (a : Record) (rest : List Record) (n : ℕ) → AreNumbered (n + 1) (a ∷ rest) → ((r : Record) → IsFound x r → n < r.number → In (a ∷ rest) r)
    → (r : Record) → IsFound x r → n + 1 < r.number → In rest r
rest_only x a rest n num sound r k l = ⊎_elim
    (λ e. let m = ap (λ (s : Record). s.number) e in let q = num.1 in absurd (omega (arith, l, m, q)))
    (λ i. i)
    (sound r k (omega (arith, l)))

-- Where the records found are known, recovery takes the flushed ones and some that follow.
pub taken : (x : Image) (flushed rest : List Record) (n : ℕ) → AreNumbered (n + 1) (flushed ++ rest)
    → ((r : Record) → IsFound x r → n < r.number → In (flushed ++ rest) r) → ((r : Record) → In flushed r → IsFound x r)
    → ((r : Record) → In (flushed ++ rest) r → IsFound x r ⊎ (IsFound x r → ⊥)) → (k : ℕ) × (k ≤ length rest) × AreRecovered x n (flushed ++ take k rest)
taken x [] [] n num sound safe decides = (0, omega arith, λ r h m. sound r h (omega (arith, m)))
taken x [] (a ∷ rest) n num sound safe decides = ⊎_elim
    (λ h.
    let more = taken x [] rest (n + 1) num.2 (rest_only x a rest n num sound) safe (λ r i. decides r (inr i)) in
    (suc more.0, (let l = more.1 in omega (arith, l)), (h, num.1, more.2)))
    (λ gone. (
      0,
      omega arith,
      λ r h m. ⊎_elim (λ e. gone (subst (IsFound x) (sym e) h))
          (λ i. let l = from_first_in (n + 1 + 1) rest r num.2 i in omega (arith, l, m)) (sound r h (omega (arith, m))),
    ))
    (decides a (inl (λ i. a)))
taken x (a ∷ flushed) rest n num sound safe decides =
    let more = taken x flushed rest (n + 1) num.2 (rest_only x a (flushed ++ rest) n num sound) (λ r i. safe r (inr i)) (λ r i. decides r (inr i)) in
    (more.0, more.1, (safe a (inl (λ i. a)), num.1, more.2))
