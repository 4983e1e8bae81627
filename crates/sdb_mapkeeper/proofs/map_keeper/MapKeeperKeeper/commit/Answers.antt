use Rattle.std.proofs.Common.{◌≡◌, ◌+◌, Some, inr, refl, ap, sym, ◌∙◌, arith}
use Rattle.sdb_base.specs.Content.{meta_from, node_from}
use Rattle.sdb_base.specs.Pipeline.{Pipeline}
use Rattle.sdb_base.specs.TooLong.{first_too_long}
use Rattle.sdb_base.proofs.Commits.{count_more, meta_more, node_more}
use Rattle.sdb_base.proofs.TooLong.{too_long_is_there}
use Rattle.sdb_mapkeeper.proofs.map_keeper.MapKeeperKeeper.commit.Goals as goal

pub returns-in-Some-clause-cause : goal.returns-in-Some-clause-cause
returns-in-Some-clause-cause c =
    let found : first_too_long c.args.ops ≡ Some c.in-Some.len = grind (arith, c.in-Some.ensures) in
    let there = too_long_is_there c.args.ops c.in-Some.len found in
    inr (c.in-Some.len, refl, there.0, there.1)

pub returns-in-Ok-clause-accepted : goal.returns-in-Ok-clause-accepted
returns-in-Ok-clause-accepted c commits stands = record {
  nodes = λ key. c.in-Ok.ensures.ok.nodes key
      ∙ ap (λ now. node_from key now c.args.ops) (stands.nodes key) ∙ node_more commits c.args.ops key;
  metas = λ key. c.in-Ok.ensures.ok.metas key
      ∙ ap (λ now. meta_from key now c.args.ops) (stands.metas key) ∙ meta_more commits c.args.ops key;
  count = ap (λ (p : Pipeline). p.numbers.accepted) c.accept.ensures.accepted
      ∙ ap (λ n. n + 1) stands.count ∙ sym (count_more commits c.args.ops);
}

pub returns-in-Err-clause-refused : goal.returns-in-Err-clause-refused
returns-in-Err-clause-refused c commits stands = record {
  nodes = λ key. c.in-Err.ensures.err.nodes key ∙ stands.nodes key;
  metas = λ key. c.in-Err.ensures.err.metas key ∙ stands.metas key;
  count = stands.count;
}
