use Rattle.std.proofs.Common.{◌≡◌, ◌↔◌, IsTrue, Bool, true, false, List, ℕ, get_or, nat_eq, refl, arith, subst}
use Rattle.std.specs.List.{Contains, IsAnyAnswer}
use Rattle.std.proofs.lemmas.Bool.Decides.{nat_tests}
use Rattle.pdb_memdisk.proofs.memory.MemDisk.is_listed.Goals as goal

listed : (xs : List ℕ) (x : ℕ) (r : Bool) → IsAnyAnswer (λ y b. nat_eq y x ≡ b) xs r → IsTrue r ↔ Contains xs x
listed xs x true (k, low, h) =
    let same : nat_eq (get_or xs k x) x ≡ true = h x in
    ((λ t. (k, low, grind (arith, nat_tests))), (λ found. refl))
listed xs x false none = (
  (λ t. absurd (cc)),
  (λ found.
      let other : nat_eq (get_or xs found.0 x) x ≡ false = none found.0 x (omega arith) found.1 in
      let same : get_or xs found.0 x ≡ x = found.2 in
      absurd (grind (arith, nat_tests))),
)

pub returns : goal.returns
returns c =
    subst (λ (xs : List ℕ). IsTrue c.contains.result ↔ Contains xs c.args.self.now.tried) c.deref.ensures.value
    (listed c.deref.result.now c.args.self.now.tried c.contains.result c.contains.ensures.cases)
