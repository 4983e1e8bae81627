-- Operations without a value that is too long can be stored.
use Rattle.std.proofs.Common.{◌≡◌, ◌∷◌, [], ◌≤◌, Bool, true, false, List, None, Some, cond, nat_lt, refl, arith}
use Rattle.std.specs.Prelude.{All}
use Rattle.std.proofs.lemmas.Bool.{ltb-false}
use Rattle.std.proofs.lemmas.List.Elements.{All-cons, All-nil}
use Rattle.sdb_base.specs.Keeping.{most_in_kept_value}
use Rattle.sdb_base.specs.TooLong.{first_too_long, value_length}
use Rattle.sdb_base.specs.declared.op.Op.{Op}
use Rattle.sdb_base.specs.declared.op.Op.TheVariants.{AddRef, DropRef, Put, Erase}
use Rattle.pdb_column.specs.Answers.{IsStorable}

storable_op : (op : Op) → value_length op ≤ most_in_kept_value → IsStorable op
storable_op (AddRef key bytes) le = le
storable_op (DropRef key) le = tt
storable_op (Put key bytes) le = le
storable_op (Erase key) le = tt

by_test : (t : Bool) (op : Op) (ops : List Op) → nat_lt most_in_kept_value (value_length op) ≡ t → (first_too_long ops ≡ None → All IsStorable ops)
    → cond t (Some (value_length op)) (first_too_long ops) ≡ None → All IsStorable (op ∷ ops)
by_test true op ops test later e = absurd cc
by_test false op ops test later e =
    let le = ltb-false most_in_kept_value (value_length op) test in
    All-cons IsStorable op ops (storable_op op (omega (arith, le))) (later e)

pub storable_all : (ops : List Op) → first_too_long ops ≡ None → All IsStorable ops
storable_all [] e = All-nil IsStorable
storable_all (op ∷ ops) e = by_test (nat_lt most_in_kept_value (value_length op)) op ops refl (storable_all ops) e
