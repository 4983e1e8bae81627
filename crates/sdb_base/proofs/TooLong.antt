-- The first value that is too long is one of an operation's.
use Rattle.std.proofs.Common.{◌≡◌, ◌∷◌, [], ℕ, zero, suc, ◌<◌, Bool, true, false, List, Some, cond, nat_lt, refl, subst, arith}
use Rattle.std.specs.Prelude.{Any}
use Rattle.std.proofs.lemmas.Bool.{ltb-true}
use Rattle.sdb_base.specs.Keeping.{HasValueOf, most_in_kept_value}
use Rattle.sdb_base.specs.TooLong.{first_too_long, value_length}
use Rattle.sdb_base.specs.declared.op.Op.{Op}
use Rattle.sdb_base.specs.declared.op.Op.TheVariants.{AddRef, DropRef, Put, Erase}

has_value : (op : Op) → most_in_kept_value < value_length op → HasValueOf (value_length op) op
has_value (AddRef k b) lt = refl
has_value (DropRef k) lt = absurd (omega arith)
has_value (Put k b) lt = refl
has_value (Erase k) lt = absurd (omega arith)

one_more_before : (len : ℕ) (op : Op) (ops : List Op) → Any (HasValueOf len) ops → Any (HasValueOf len) (op ∷ ops)
one_more_before len op ops h = (suc h.0, h.1, omega arith, h.3, h.4)

here_or_later : (t : Bool) (len : ℕ) (op : Op) (ops : List Op) → nat_lt most_in_kept_value (value_length op) ≡ t
    → (first_too_long ops ≡ Some len → (most_in_kept_value < len) × Any (HasValueOf len) ops)
    → cond t (Some (value_length op)) (first_too_long ops) ≡ Some len
    → (most_in_kept_value < len) × Any (HasValueOf len) (op ∷ ops)
here_or_later true len op ops test later e =
    let over : most_in_kept_value < value_length op = ltb-true most_in_kept_value (value_length op) test in
    let same : value_length op ≡ len = cc in (
      subst (λ (n : ℕ). most_in_kept_value < n) same over,
      subst (λ (n : ℕ). Any (HasValueOf n) (op ∷ ops)) same (zero, op, omega arith, refl, has_value op over),
    )
here_or_later false len op ops test later e = let h = later e in (h.0, one_more_before len op ops h.1)

pub too_long_is_there : (ops : List Op) (len : ℕ) → first_too_long ops ≡ Some len → (most_in_kept_value < len) × Any (HasValueOf len) ops
too_long_is_there [] len e = absurd cc
too_long_is_there (op ∷ ops) len e =
    here_or_later (nat_lt most_in_kept_value (value_length op)) len op ops refl (too_long_is_there ops len) e
