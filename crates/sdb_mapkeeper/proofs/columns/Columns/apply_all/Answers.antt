use Rattle.std.proofs.Common.{◌<◌, length, ap, arith, subst, sym, ◌∙◌}
use Rattle.std.proofs.lemmas.List.{length-set}
use Rattle.sdb_base.specs.Content.{meta_after, node_after}
use Rattle.sdb_mapkeeper.specs.inner.Applying.{HasPlace, meta_in, node_in}
use Rattle.sdb_mapkeeper.proofs.Applying.{applied_more, item_same, rest_same}
use Rattle.sdb_mapkeeper.proofs.columns.Columns.apply_all.Goals as goal

pub apply-requires : goal.apply-requires
apply-requires c =
    let at = c.loop-at in
    let lt : at.at < length at.ops = omega arith in
    let m : at.at < length c.args.ops.now = omega arith in
    let same = item_same at.ops c.args.ops.now at.at c.index-ops-at.result lt at.invariant.length at.invariant.rest in
    subst (HasPlace at.self) (sym same) (at.invariant.stay _ (c.requires at.at c.index-ops-at.result m))

pub loop-at-preserved : goal.loop-at-preserved
loop-at-preserved c =
    let at = c.loop-at in
    let lt : at.at < length at.ops = omega arith in
    let m : at.at < length c.args.ops.now = omega arith in
    let d = c.index-ops-at.result in
    let same = item_same at.ops c.args.ops.now at.at d lt at.invariant.length at.invariant.rest in record {
      applied = applied_more c.args.self.now at.self c.apply.new.self c.args.ops.now at.at d m at.invariant.applied
          (λ key. c.apply.ensures.nodes key ∙ ap (node_after key (node_in at.self key)) same)
          (λ key. c.apply.ensures.metas key ∙ ap (meta_after key (meta_in at.self key)) same);
      rest = rest_same at.ops c.args.ops.now at.at c.apply.new.op lt at.invariant.length at.invariant.rest;
      length = length-set at.ops at.at c.apply.new.op ∙ at.invariant.length;
      stay = λ op has. c.apply.ensures.stay op (at.invariant.stay op has);
    }
