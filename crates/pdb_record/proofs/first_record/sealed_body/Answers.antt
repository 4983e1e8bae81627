use Rattle.std.proofs.Common.{◌≡◌, ◌+◌, ◌-◌, ◌≤◌, ℕ, List, ◌++◌, true, length, take, drop, sym, ap, ◌∙◌, arith}
use Rattle.std.proofs.lemmas.Slice.Eq.{bytes_eq-Decides}
use Rattle.pdb_model.specs.Gates.{checksum, sealed}
use Rattle.pdb_record.proofs.Grammar.{checked, seal_found, sealed_len}
use Rattle.pdb_record.proofs.first_record.sealed_body.Goals.{then-left-lt-AROUND_BODY-via-then-left-lt-AROUND_BODY, then-left-lt-AROUND_BODY-via-else-left-lt-AROUND_BODY+then-len-left}
use Rattle.pdb_record.proofs.first_record.sealed_body.Goals as goal

pub returns-then-left-lt-AROUND_BODY-clause-none : goal.returns-then-left-lt-AROUND_BODY-clause-none
returns-then-left-lt-AROUND_BODY-clause-none c body rest len long is =
    let total = sealed_len c.args.left.now body rest long is in
    elim c.then-left-lt-AROUND_BODY.branch [
      | then-left-lt-AROUND_BODY-via-then-left-lt-AROUND_BODY w ↦ absurd (omega (arith, total, w.if-left-lt-AROUND_BODY.true))
      | then-left-lt-AROUND_BODY-via-else-left-lt-AROUND_BODY+then-len-left w ↦ absurd (omega (arith, total, w.if-len-left.true))
    ]

pub returns-then-eq-clause-some : goal.returns-then-eq-clause-some
returns-then-eq-clause-some c =
    let left : List ℕ = c.args.left.now in
    let n : ℕ = c.args.len in
    let stored : take (48 + n + 8 - (48 + n)) (drop (48 + n) left) ≡ c.as_slice.result.now = (bytes_eq-Decides _ _).0 (sym c.eq.ensures ∙ c.if-eq.true) in
    let eight : 8 ≡ 48 + n + 8 - (48 + n) = omega arith in
    let is : take 8 (drop (48 + n) left) ≡ checksum (take (48 + n) left)
    = ap (λ m. take m (drop (48 + n) left)) eight ∙ (stored ∙ (c.as_slice.ensures ∙ c.checksum.ensures)) in
    let within : 56 + c.args.len ≤ length c.args.left.now = omega (arith, c.if-len-left.false, c.if-left-lt-AROUND_BODY.false) in
    let own : c.args.len ≡ 48 + c.args.len - 48 = omega arith in
    seal_found left n within is ∙ ap (λ m. sealed (take 48 left ++ take m (drop 48 left)) ++ drop (56 + n) left) own

pub returns-else-eq-clause-none : goal.returns-else-eq-clause-none
returns-else-eq-clause-none c body rest len long is =
    let left : List ℕ = c.args.left.now in
    let n : ℕ = c.args.len in
    let eight : 48 + n + 8 - (48 + n) ≡ 8 = omega arith in
    let stored : take (48 + n + 8 - (48 + n)) (drop (48 + n) left) ≡ c.as_slice.result.now
    = ap (λ m. take m (drop (48 + n) left)) eight ∙ (checked left body rest n long len is ∙ sym (c.as_slice.ensures ∙ c.checksum.ensures)) in
    let equal : c.eq.result ≡ true = c.eq.ensures ∙ (bytes_eq-Decides _ _).1 stored in
    cc
