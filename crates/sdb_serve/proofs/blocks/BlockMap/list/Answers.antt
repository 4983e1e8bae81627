use Rattle.std.proofs.Common.{rules, refl}
use Rattle.sdb_serve.specs.inner.Kept.{MeetsNoBadNode}
use Rattle.sdb_serve.proofs.Keeping.{keeps_same, represents_same}
use Rattle.sdb_serve.proofs.KeptReads.{IsKnown, known, list_kind, list_same}
use Rattle.sdb_serve.proofs.blocks.BlockMap.list.Goals as goal

pub returns-in_err-keys_under-in-Some-clause-sound : goal.returns-in_err-keys_under-in-Some-clause-sound
returns-in_err-keys_under-in-Some-clause-sound g c blocks commits keeps clears clear =
    let is : IsKnown c.args.self.now blocks c.args.id c.in-Some.root = known c.args.self.now blocks c.args.id keeps.represents c.in-Some.root c.in-Some.ensures in
    let e : MeetsNoBadNode c.in_err-keys_under-in-Some.field-0.0 = c.in_err-keys_under-in-Some.ensures.sound commits is.state keeps.keeper clears (is.kept commits (keeps.states clear) clear) in
    search rules

pub returns-in_err-keys_under-in-Some-clause-represents : goal.returns-in_err-keys_under-in-Some-clause-represents
returns-in_err-keys_under-in-Some-clause-represents g c blocks r = represents_same c.args.self.now _ blocks (record { entries = λ id. refl; levels = refl }) r

pub returns-in_err-keys_under-in-Some-clause-keeps : goal.returns-in_err-keys_under-in-Some-clause-keeps
returns-in_err-keys_under-in-Some-clause-keeps g c blocks commits keeps =
    keeps_same g.K.Keeper.stands c.args.self.now _ blocks commits (record { entries = λ id. refl; levels = refl }) (c.in_err-keys_under-in-Some.ensures.stands commits) keeps

pub returns-in_ok-keys_under-in-Some-clause-kind : goal.returns-in_ok-keys_under-in-Some-clause-kind
returns-in_ok-keys_under-in-Some-clause-kind g c blocks r =
    list_kind c.args.self.now blocks c.args.id c.in-Some.root (known c.args.self.now blocks c.args.id r c.in-Some.root c.in-Some.ensures) c.args.prefix c.in_ok-keys_under-in-Some.field-0

pub returns-in_ok-keys_under-in-Some-clause-answer : goal.returns-in_ok-keys_under-in-Some-clause-answer
returns-in_ok-keys_under-in-Some-clause-answer g c blocks commits keeps clears clear =
    let is : IsKnown c.args.self.now blocks c.args.id c.in-Some.root = known c.args.self.now blocks c.args.id keeps.represents c.in-Some.root c.in-Some.ensures in
    list_same c.args.self.now blocks c.args.id c.in-Some.root is c.args.prefix c.in_ok-keys_under-in-Some.field-0
    (c.in_ok-keys_under-in-Some.ensures.answer commits is.state keeps.keeper clears (is.kept commits (keeps.states clear) clear))

pub returns-in_ok-keys_under-in-Some-clause-represents : goal.returns-in_ok-keys_under-in-Some-clause-represents
returns-in_ok-keys_under-in-Some-clause-represents g c blocks r = represents_same c.args.self.now _ blocks (record { entries = λ id. refl; levels = refl }) r

pub returns-in_ok-keys_under-in-Some-clause-keeps : goal.returns-in_ok-keys_under-in-Some-clause-keeps
returns-in_ok-keys_under-in-Some-clause-keeps g c blocks commits keeps =
    keeps_same g.K.Keeper.stands c.args.self.now _ blocks commits (record { entries = λ id. refl; levels = refl }) (c.in_ok-keys_under-in-Some.ensures.stands commits) keeps
