-- How the count of a disk's faults goes on from line to line.
use Rattle.std.proofs.Common.{◌≡◌, ℕ, Bool, false, refl, ap, ◌∙◌, Err, Result}
use Rattle.std.specs.Prelude.{IsErrOf}
use Rattle.sdb_io.specs.Faults.{CountsFault}
use Rattle.pdb_disk.specs.Files.{Files}
use Rattle.sdb_serve.specs.inner.Steps.{CountsWhere, GoesOn}
use Rattle.sdb_serve.specs.declared.session.Session.{Session}
use Rattle.sdb_serve.specs.declared.cause.Cause.{Cause}
use Rattle.sdb_serve.specs.declared.cause.Stop.TheVariants as stops

err_is : {T E : Type 0} (x y : E) → ◌≡◌ {A = Result T E} (Err x) (Err y) → x ≡ y
err_is x y e = cc

cause_is : (x y : Cause) → stops.Cause x ≡ stops.Cause y → x ≡ y
cause_is x y e = cc

counts_as : (P Q : Type 0) (a b : ℕ) → (P → Q) → (Q → P) → CountsWhere P a b → CountsWhere Q a b
counts_as P Q a b f h counts = (λ q. counts.0 (h q), λ other. counts.1 (λ p. other (f p)))

-- no fault is counted for another stop
pub none_counted : (P : Type 0) (a b : ℕ) → (P → ⊥) → CountsFault false a b → CountsWhere P a b
none_counted P a b fails same = (λ p. absurd (fails p), λ other. same)

-- a cause as the stop that it is
pub counts_stop : {T U : Type 0} (cause which : Cause) (a b : ℕ) → CountsWhere (IsErrOf {T = T} (Err cause) which) a b
    → CountsWhere (IsErrOf {T = U} (Err (stops.Cause cause)) (stops.Cause which)) a b
counts_stop cause which a b counts =
    counts_as _ _ a b (λ e. ap (λ (c : Cause). Err (stops.Cause c)) (err_is cause which e))
    (λ e. ap (λ (c : Cause). Err c) (cause_is cause which (err_is (stops.Cause cause) (stops.Cause which) e))) counts

-- the same stop of a call of another kind
pub counts_err : {T U E : Type 0} (x y : E) (a b : ℕ) → CountsWhere (IsErrOf {T = T} (Err x) y) a b
    → CountsWhere (IsErrOf {T = U} (Err x) y) a b
counts_err {T} {U} {E} x y a b counts =
    counts_as _ _ a b (λ e. ap (λ (z : E). Err z) (err_is x y e)) (λ e. ap (λ (z : E). Err z) (err_is x y e)) counts

-- a stop that a call handed on
pub counts_of : {T E : Type 0} (x y : E) (a b : ℕ) → CountsWhere (IsErrOf {T = T} (Err x) y) a b → CountsWhere (x ≡ y) a b
counts_of {T} {E} x y a b counts = counts_as _ _ a b (λ e. err_is x y e) (λ e. ap (λ (z : E). Err z) e) counts

module _ {D : Type 0} (tells : D → Bool) (clock : D → ℕ) (past : D → ℕ → Files) (given : D) (fault_count : D → ℕ) where
  pub goes_nowhere : (p : Session D) → GoesOn tells clock past given fault_count p p
  goes_nowhere p = λ a h. (a, h, refl)

  pub goes_further : (p q r : Session D) → GoesOn tells clock past given fault_count p q → GoesOn tells clock past given fault_count q r
      → GoesOn tells clock past given fault_count p r
  goes_further p q r first second = λ a h.
      let x = first a h in
      let y = second x.0 x.1 in
      (y.0, y.1, y.2 ∙ x.2)
