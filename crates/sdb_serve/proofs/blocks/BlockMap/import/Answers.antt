use Rattle.std.proofs.Common.{◌+◌, rules, refl, sym, ap, ◌∙◌}
use Rattle.std.specs.Option.{option_map}
use Rattle.std.specs.BTreeMap.{get}
use Rattle.sdb_serve.specs.declared.blocks.BlockEntry.{BlockEntry}
use Rattle.sdb_serve.specs.inner.Blocks.{id_cmp, with_level}
use Rattle.sdb_serve.specs.inner.Kept.{MeetsNoBadNode}
use Rattle.sdb_serve.proofs.Accepting.{on_err}
use Rattle.sdb_serve.proofs.Imports.{import_again, import_of_new, import_without_parent, next_number, no_room, room}
use Rattle.sdb_serve.proofs.Keeping.{keeps_same, no_value, represents_same}
use Rattle.sdb_serve.proofs.KeptBlocks.{keeps_imported, represents_imported}
use Rattle.sdb_serve.proofs.KeptReads.{IsKnown, known}
use Rattle.sdb_serve.proofs.blocks.BlockMap.import.Goals as goal

pub returns-in_default-clause-answer : goal.returns-in_default-clause-answer
returns-in_default-clause-answer g c blocks r = import_without_parent c.args.self.now blocks c.args.block r (sym c.in_default.ensures.value)

pub returns-then-contains_key-clause-answer : goal.returns-then-contains_key-clause-answer
returns-then-contains_key-clause-answer g c blocks r =
    import_again c.args.self.now blocks c.args.block r c.in-Some.parent.now (sym c.in-Some.ensures.value) (sym c.if-contains_key.ensures)

pub returns-then-siblings-ge-MOST_SIBLINGS-clause-answer : goal.returns-then-siblings-ge-MOST_SIBLINGS-clause-answer
returns-then-siblings-ge-MOST_SIBLINGS-clause-answer g c blocks r =
    no_room c.saturating_add-number.result c.siblings_at-siblings.result c.if-siblings-ge-MOST_SIBLINGS.true
    ∙ import_of_new c.args.self.now blocks c.args.block r c.in-Some.parent.now (sym c.in-Some.ensures.value) (sym c.if-contains_key.ensures)
    c.saturating_add-number.result c.siblings_at-siblings.result c.saturating_add-number.ensures c.siblings_at-siblings.ensures

pub returns-clause-answer : goal.returns-clause-answer
returns-clause-answer g c blocks r =
    room c.saturating_add-number.result c.siblings_at-siblings.result c.if-siblings-ge-MOST_SIBLINGS.false
    ∙ import_of_new c.args.self.now blocks c.args.block r c.in-Some.parent.now (sym c.in-Some.ensures.value) (sym c.if-contains_key.ensures)
    c.saturating_add-number.result c.siblings_at-siblings.result c.saturating_add-number.ensures c.siblings_at-siblings.ensures

pub returns-in_default-clause-keeps : goal.returns-in_default-clause-keeps
returns-in_default-clause-keeps g c blocks commits keeps clears = (commits, refl, g.met.K.Keeper.later_itself _ commits keeps.keeper, keeps)

pub returns-then-contains_key-clause-keeps : goal.returns-then-contains_key-clause-keeps
returns-then-contains_key-clause-keeps g c blocks commits keeps clears = (commits, refl, g.met.K.Keeper.later_itself _ commits keeps.keeper, keeps)

pub returns-then-siblings-ge-MOST_SIBLINGS-clause-keeps : goal.returns-then-siblings-ge-MOST_SIBLINGS-clause-keeps
returns-then-siblings-ge-MOST_SIBLINGS-clause-keeps g c blocks commits keeps clears = (commits, refl, g.met.K.Keeper.later_itself _ commits keeps.keeper, keeps)

pub returns-clause-represents : goal.returns-clause-represents
returns-clause-represents g c blocks r =
    represents_imported c.args.self.now c.accept.new.self blocks c.args.block c.in-Some.parent.now c.saturating_add-number.result c.in_ok-delta.delta r c.requires
    (sym c.in-Some.ensures.value) (sym c.if-contains_key.ensures)
    (next_number c.args.self.now blocks c.args.block r c.in-Some.parent.now (sym c.in-Some.ensures.value) c.saturating_add-number.result c.saturating_add-number.ensures)
    (record {
      found = c.in_ok-accept.ensures.added;
      levels = c.in_ok-accept.ensures.levels ∙ ap (λ k. with_level c.args.self.now.levels.items c.saturating_add-number.result (k + 1)) c.siblings_at-siblings.ensures;
    })

pub returns-clause-keeps : goal.returns-clause-keeps
returns-clause-keeps g c blocks commits keeps clears = (
  _,
  (c.in_ok-delta.delta.puts, refl),
  g.met.K.Keeper.later_on _ _ _ commits commits _ (c.in_ok-delta.ensures.later commits keeps.keeper)
      (c.in_ok-accept.ensures.kept_later commits (c.in_ok-delta.ensures.stands commits keeps.keeper)),
  keeps_imported c.args.self.now c.accept.new.self blocks c.args.block c.in-Some.parent.now c.saturating_add-number.result c.in_ok-delta.delta keeps.represents c.requires
      (sym c.in-Some.ensures.value) (sym c.if-contains_key.ensures)
      (next_number c.args.self.now blocks c.args.block keeps.represents c.in-Some.parent.now (sym c.in-Some.ensures.value) c.saturating_add-number.result c.saturating_add-number.ensures)
      (record {
        found = c.in_ok-accept.ensures.added;
        levels = c.in_ok-accept.ensures.levels ∙ ap (λ k. with_level c.args.self.now.levels.items c.saturating_add-number.result (k + 1)) c.siblings_at-siblings.ensures;
      })
      g.K.Keeper.stands commits keeps (c.in_ok-accept.ensures.kept commits (c.in_ok-delta.ensures.stands commits keeps.keeper))
      (λ s is. c.in_ok-delta.ensures.answer commits s keeps.keeper clears is),
)

pub returns-in_err-delta-clause-sound : goal.returns-in_err-delta-clause-sound
returns-in_err-delta-clause-sound g c blocks commits keeps clears clear =
    let is : IsKnown c.args.self.now blocks c.args.block.parent c.in-Some.parent.now.root =
    known c.args.self.now blocks c.args.block.parent keeps.represents c.in-Some.parent.now.root (ap (option_map (λ (k : BlockEntry). k.root)) c.in-Some.ensures.value) in
    let e : MeetsNoBadNode c.in_err-delta.field-0.0 = c.in_err-delta.ensures.sound commits is.state keeps.keeper clears (is.kept commits (keeps.states clear) clear) in
    search rules

pub returns-in_err-delta-clause-refused : goal.returns-in_err-delta-clause-refused
returns-in_err-delta-clause-refused g c blocks r = on_err _ (represents_same c.args.self.now _ blocks (record { entries = λ id. refl; levels = refl }) r)

pub returns-in_err-delta-clause-refused_keeps : goal.returns-in_err-delta-clause-refused_keeps
returns-in_err-delta-clause-refused_keeps g c blocks commits keeps =
    on_err _ (keeps_same g.K.Keeper.stands c.args.self.now _ blocks commits (record { entries = λ id. refl; levels = refl }) (c.in_err-delta.ensures.stands commits) keeps)

pub returns-in_err-accept-clause-refused : goal.returns-in_err-accept-clause-refused
returns-in_err-accept-clause-refused g c blocks r =
    let same = c.in_err-accept.ensures.same (no_value (get id_cmp c.args.self.now.blocks c.args.block.id) (sym c.if-contains_key.ensures)) in
    on_err _ (represents_same c.args.self.now c.accept.new.self blocks (record { entries = same.entries; levels = same.levels }) r)

pub returns-in_err-accept-clause-refused_keeps : goal.returns-in_err-accept-clause-refused_keeps
returns-in_err-accept-clause-refused_keeps g c blocks commits keeps =
    let same = c.in_err-accept.ensures.same (no_value (get id_cmp c.args.self.now.blocks c.args.block.id) (sym c.if-contains_key.ensures)) in
    on_err _ (keeps_same g.K.Keeper.stands c.args.self.now c.accept.new.self blocks commits (record { entries = same.entries; levels = same.levels })
    (λ h. c.in_err-accept.ensures.refused commits (c.in_ok-delta.ensures.stands commits h)) keeps)
