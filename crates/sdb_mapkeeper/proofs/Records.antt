-- The records of a pipeline in which each commit has its own.
use Rattle.std.proofs.Common.{◌≡◌, ◌∷◌, ◌++◌, [], ℕ, zero, suc, ◌+◌, ◌-◌, ◌<◌, ◌≤◌, List, Some, length, refl, sym, ap, ◌∙◌, arith}
use Rattle.sdb_base.specs.Pipeline.{Enacts, Pipeline, with_record}
use Rattle.sdb_mapkeeper.specs.Uncrowded.{counted_up, uncrowded}
use Rattle.sdb_base.specs.declared.numbers.Numbers.{Numbers}

counted_length : (a k : ℕ) → length (counted_up a k) ≡ k
counted_length a zero = refl
counted_length a (suc k) = ap (λ n. suc n) (counted_length (suc a) k)

counted_last : (a k : ℕ) → counted_up a k ++ suc (a + k) ∷ [] ≡ counted_up a (suc k)
counted_last a zero = ap (λ n. suc n ∷ []) (omega arith)
counted_last a (suc k) =
    ap (λ n. suc a ∷ (counted_up (suc a) k ++ n ∷ [])) (omega arith) ∙ ap (λ ns. suc a ∷ ns) (counted_last (suc a) k)

-- as many records wait as commits are logged and not enacted
pub waiting_length : (enacted logged : ℕ) → length (counted_up enacted (logged - enacted)) ≡ logged - enacted
waiting_length enacted logged = counted_length enacted (logged - enacted)

-- the next commit's record is appended
waiting_more : (enacted logged : ℕ) → enacted ≤ logged
    → counted_up enacted (logged - enacted) ++ (logged + 1) ∷ [] ≡ counted_up enacted ((logged + 1) - enacted)
waiting_more enacted logged le =
    let last : logged + 1 ≡ suc (enacted + (logged - enacted)) = omega arith in
    let more : suc (logged - enacted) ≡ (logged + 1) - enacted = omega arith in
    ap (λ n. counted_up enacted (logged - enacted) ++ n ∷ []) last
    ∙ counted_last enacted (logged - enacted) ∙ ap (λ k. counted_up enacted k) more

pub logs_next : (n : Numbers) → n.enacted ≤ n.logged
    → uncrowded (record n { logged = n.logged + 1 }) ≡ with_record (uncrowded n) (n.logged + 1)
logs_next n le =
    ap (λ (ns : List ℕ). let p : Pipeline = record (uncrowded (record n { logged = n.logged + 1 })) { waiting = ns } in p) (sym (waiting_more n.enacted n.logged le))

-- the oldest record is that of the next commit after the enacted ones
waiting_first : (enacted logged : ℕ) → enacted < logged
    → counted_up enacted (logged - enacted) ≡ (enacted + 1) ∷ counted_up (enacted + 1) (logged - (enacted + 1))
waiting_first enacted logged lt =
    let more : logged - enacted ≡ suc (logged - (enacted + 1)) = omega arith in
    let next : suc enacted ≡ enacted + 1 = omega arith in
    ap (λ k. counted_up enacted k) more ∙ ap (λ (n : ℕ). n ∷ counted_up n (logged - (enacted + 1))) next

pub enacts_next : (n : Numbers) → n.enacted < n.flushed → n.flushed ≤ n.logged
    → Enacts (uncrowded n) (Some (n.enacted + 1)) (uncrowded (record n { enacted = n.enacted + 1 }))
enacts_next n lt le = (
  n.flushed - (n.enacted + 1),
  counted_up (n.enacted + 1) (n.logged - (n.enacted + 1)),
  omega arith,
  waiting_first n.enacted n.logged (omega arith),
  refl,
)
