use Rattle.std.proofs.Common.{rules, refl, sym, ◌∙◌, inl, inr, Some, None}
use Rattle.sdb_model.specs.declared.Reply.TheVariants.{Value, Nothing}
use Rattle.sdb_serve.specs.inner.Kept.{MeetsNoBadNode}
use Rattle.sdb_serve.proofs.Keeping.{keeps_same, represents_same}
use Rattle.sdb_serve.proofs.KeptReads.{IsKnown, known, read_kind, read_same}
use Rattle.sdb_serve.proofs.blocks.BlockMap.read.Goals as goal

pub returns-in_err-value-clause-sound : goal.returns-in_err-value-clause-sound
returns-in_err-value-clause-sound g c blocks commits keeps clears clear =
    let is : IsKnown c.args.self.now blocks c.args.id c.in-Some.root = known c.args.self.now blocks c.args.id keeps.represents c.in-Some.root c.in-Some.ensures in
    let e : MeetsNoBadNode c.in_err-value.field-0.0 = c.in_err-value.ensures.sound commits is.state keeps.keeper clears (is.kept commits (keeps.states clear) clear) in
    search rules

pub returns-in_err-value-clause-represents : goal.returns-in_err-value-clause-represents
returns-in_err-value-clause-represents g c blocks r = represents_same c.args.self.now _ blocks (record { entries = λ id. refl; levels = refl }) r

pub returns-in_err-value-clause-keeps : goal.returns-in_err-value-clause-keeps
returns-in_err-value-clause-keeps g c blocks commits keeps =
    keeps_same g.K.Keeper.stands c.args.self.now _ blocks commits (record { entries = λ id. refl; levels = refl }) (c.in_err-value.ensures.stands commits) keeps

pub returns-in-Some-2-clause-kind : goal.returns-in-Some-2-clause-kind
returns-in-Some-2-clause-kind g c blocks r =
    read_kind c.args.self.now blocks c.args.id c.in-Some.root (known c.args.self.now blocks c.args.id r c.in-Some.root c.in-Some.ensures) c.args.key (Value c.in-Some-2.value) (inr (c.in-Some-2.value, refl))

pub returns-in-Some-2-clause-answer : goal.returns-in-Some-2-clause-answer
returns-in-Some-2-clause-answer g c blocks commits keeps clears clear =
    let is : IsKnown c.args.self.now blocks c.args.id c.in-Some.root = known c.args.self.now blocks c.args.id keeps.represents c.in-Some.root c.in-Some.ensures in
    read_same c.args.self.now blocks c.args.id c.in-Some.root is c.args.key (Some c.in-Some-2.value)
    (sym c.in-Some-2.is ∙ c.in_ok-value.ensures.answer commits is.state keeps.keeper clears (is.kept commits (keeps.states clear) clear))

pub returns-in-Some-2-clause-represents : goal.returns-in-Some-2-clause-represents
returns-in-Some-2-clause-represents g c blocks r = represents_same c.args.self.now _ blocks (record { entries = λ id. refl; levels = refl }) r

pub returns-in-Some-2-clause-keeps : goal.returns-in-Some-2-clause-keeps
returns-in-Some-2-clause-keeps g c blocks commits keeps =
    keeps_same g.K.Keeper.stands c.args.self.now _ blocks commits (record { entries = λ id. refl; levels = refl }) (c.in_ok-value.ensures.stands commits) keeps

pub returns-in-None-clause-kind : goal.returns-in-None-clause-kind
returns-in-None-clause-kind g c blocks r =
    read_kind c.args.self.now blocks c.args.id c.in-Some.root (known c.args.self.now blocks c.args.id r c.in-Some.root c.in-Some.ensures) c.args.key Nothing (inl refl)

pub returns-in-None-clause-answer : goal.returns-in-None-clause-answer
returns-in-None-clause-answer g c blocks commits keeps clears clear =
    let is : IsKnown c.args.self.now blocks c.args.id c.in-Some.root = known c.args.self.now blocks c.args.id keeps.represents c.in-Some.root c.in-Some.ensures in
    read_same c.args.self.now blocks c.args.id c.in-Some.root is c.args.key None
    (sym c.in-None.is ∙ c.in_ok-value.ensures.answer commits is.state keeps.keeper clears (is.kept commits (keeps.states clear) clear))

pub returns-in-None-clause-represents : goal.returns-in-None-clause-represents
returns-in-None-clause-represents g c blocks r = represents_same c.args.self.now _ blocks (record { entries = λ id. refl; levels = refl }) r

pub returns-in-None-clause-keeps : goal.returns-in-None-clause-keeps
returns-in-None-clause-keeps g c blocks commits keeps =
    keeps_same g.K.Keeper.stands c.args.self.now _ blocks commits (record { entries = λ id. refl; levels = refl }) (c.in_ok-value.ensures.stands commits) keeps
