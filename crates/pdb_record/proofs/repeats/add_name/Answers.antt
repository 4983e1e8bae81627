use Rattle.std.proofs.Common.{ℕ, List, sym, subst}
use Rattle.std.specs.List.{insert}
use Rattle.pdb_record.specs.inner.Blocks.{Ascends, IsApart, key_of}
use Rattle.pdb_record.proofs.Once.{Belongs, apart_there, ascends_insert, found_there}
use Rattle.pdb_record.proofs.repeats.add_name.Goals as goal

pub returns-in-Ok-clause-apart : goal.returns-in-Ok-clause-apart
returns-in-Ok-clause-apart c =
    subst (λ (ks : List (ℕ × ℕ)). ¬ IsApart c.args.name ks) c.as_slice.ensures.value
    (found_there c.as_slice.result.now c.args.name c.in-Ok.field-0 c.in-Ok.ensures.bound c.in-Ok.ensures.ok)

pub returns-in-Err-clause-ascends : goal.returns-in-Err-clause-ascends
returns-in-Err-clause-ascends c =
    let k : ℕ × ℕ = key_of c.args.name in
    let ascends : Ascends c.as_slice.result.now = subst Ascends (sym c.as_slice.ensures.value) c.requires.in_order in
    let here : Belongs c.as_slice.result.now k c.in-Err.place = c.in-Err.ensures.position (ascends k) in
    subst Ascends (sym c.insert.ensures.items) (subst (λ (ks : List (ℕ × ℕ)). Ascends (insert ks c.in-Err.place k)) c.as_slice.ensures.value
    (ascends_insert c.as_slice.result.now k c.in-Err.place ascends c.in-Err.ensures.bound here))

pub returns-in-Err-clause-apart : goal.returns-in-Err-clause-apart
returns-in-Err-clause-apart c =
    let ascends : Ascends c.as_slice.result.now = subst Ascends (sym c.as_slice.ensures.value) c.requires.in_order in
    let here : Belongs c.as_slice.result.now (key_of c.args.name) c.in-Err.place = c.in-Err.ensures.position (ascends (key_of c.args.name)) in
    subst (λ (ks : List (ℕ × ℕ)). IsApart c.args.name ks) c.as_slice.ensures.value (apart_there c.as_slice.result.now c.args.name c.in-Err.place here)
