use Rattle.std.proofs.Common.{◌∷◌, ◌++◌, [], List, length, refl, sym, ap, ◌∙◌, arith, inr, length-append}
use Rattle.std.specs.Prelude.{All}
use Rattle.std.proofs.lemmas.List.Elements.{All-push, All-same}
use Rattle.sdb_base.proofs.TooLong.{too_long_is_there}
use Rattle.sdb_base.specs.declared.op.Op.{Op}
use Rattle.pdb_column.specs.Answers.{IsStorable}
use Rattle.pdb_pipe.proofs.LookShort.{storable_all}
use Rattle.pdb_pipe.proofs.keeping.DatabaseKeeper.commit.Goals as goal

pub returns-in-Some-too_long_value-clause-cause : goal.returns-in-Some-too_long_value-clause-cause
returns-in-Some-too_long_value-clause-cause g c =
    let there = too_long_is_there c.args.ops c.in-Some-too_long_value.len (sym c.in-Some-too_long_value.ensures) in
    inr (c.in-Some-too_long_value.len, refl, there.0, there.1)

pub invariant_of-self-clause-counted : goal.invariant_of-self-clause-counted
invariant_of-self-clause-counted g c =
    let was = c.args.self.now.counted in
    let more = ap (λ (queue : List (List Op)). length queue) c.in-Ok.ensures.ok in
    let one = length-append c.args.self.now.queue (c.args.ops ∷ []) in omega (arith, was, more, one)

pub invariant_of-self-clause-storable : goal.invariant_of-self-clause-storable
invariant_of-self-clause-storable g c =
    All-same (λ (ops : List Op). All IsStorable ops) c.push.new.self (c.args.self.now.queue ++ c.args.ops ∷ []) c.in-Ok.ensures.ok
    (All-push (λ (ops : List Op). All IsStorable ops) c.args.self.now.queue c.args.ops c.args.self.now.storable
    (storable_all c.args.ops (sym c.too_long_value.ensures ∙ c.in_default-too_long_value.is)))
