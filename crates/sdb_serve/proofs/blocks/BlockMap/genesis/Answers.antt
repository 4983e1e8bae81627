use Rattle.std.proofs.Common.{◌+◌, get_or, [], refl, sym, ap, ◌∙◌}
use Rattle.sdb_serve.specs.inner.Blocks.{with_level}
use Rattle.sdb_serve.proofs.Accepting.{on_err}
use Rattle.sdb_serve.proofs.Keeping.{keeps_same, no_entry, represents_same}
use Rattle.sdb_serve.proofs.KeptBlocks.{keeps_genesis, represents_genesis}
use Rattle.sdb_serve.proofs.blocks.BlockMap.genesis.Goals as goal

pub returns-clause-represents : goal.returns-clause-represents
returns-clause-represents g c r =
    represents_genesis c.args.self.now c.accept.new.self c.args.block c.in_ok-delta.delta r c.requires
    (record {
      found = c.in_ok-accept.ensures.added;
      levels = c.in_ok-accept.ensures.levels ∙ ap (λ k. with_level c.args.self.now.levels.items 0 (get_or k 0 0 + 1)) (sym (r.none refl));
    })

pub returns-clause-keeps : goal.returns-clause-keeps
returns-clause-keeps g c commits keeps =
    let r = keeps.represents in (
      _,
      (c.in_ok-delta.delta.puts, refl),
      c.in_ok-accept.ensures.kept_later commits keeps.keeper,
      keeps_genesis c.args.self.now c.accept.new.self c.args.block c.in_ok-delta.delta r c.requires
          (record {
            found = c.in_ok-accept.ensures.added;
            levels = c.in_ok-accept.ensures.levels ∙ ap (λ k. with_level c.args.self.now.levels.items 0 (get_or k 0 0 + 1)) (sym (r.none refl));
          }) g.K.Keeper.stands commits keeps (c.in_ok-accept.ensures.kept commits keeps.keeper) c.in_ok-delta.ensures.answer,
    )

pub returns-in_err-accept-clause-refused : goal.returns-in_err-accept-clause-refused
returns-in_err-accept-clause-refused g c r =
    on_err _ (represents_same c.args.self.now c.accept.new.self [] (c.in_err-accept.ensures.same (no_entry c.args.self.now c.args.block.id r)) r)

pub returns-in_err-accept-clause-refused_keeps : goal.returns-in_err-accept-clause-refused_keeps
returns-in_err-accept-clause-refused_keeps g c commits keeps =
    on_err _ (keeps_same g.K.Keeper.stands c.args.self.now c.accept.new.self [] commits (c.in_err-accept.ensures.same (no_entry c.args.self.now c.args.block.id keeps.represents))
    (c.in_err-accept.ensures.refused commits) keeps)
