-- What a stage does where no index is ever without room is what its line is answered.
use Rattle.std.proofs.Common.{◌≡◌, ◌≢◌, ℕ, ◌+◌, ◌-◌, ◌≤◌, ◌==◌, Bool, true, false, cond, List, [], ◌∷◌, length, refl, sym, ap, subst, arith, Option, Some, None}
use Rattle.std.proofs.lemmas.Bool.{eq-eqb, eqb-false, eqb-true, ne_eqb}
use Rattle.std.specs.Prelude.{slice_get}
use Rattle.sdb_base.specs.Pipeline.{Enacts, GrowsUncrowded, LogsUncrowded, Pipeline, StepsUncrowded, with_record}
use Rattle.sdb_base.specs.declared.Grown.{Grown}
use Rattle.sdb_base.specs.declared.Grown.TheVariants as grown
use Rattle.sdb_base.specs.declared.Logged.{Logged}
use Rattle.sdb_base.specs.declared.Logged.TheVariants as logged
use Rattle.sdb_base.specs.declared.StageAnswer.{StageAnswer}
use Rattle.sdb_base.specs.declared.StageAnswer.TheVariants as answers
use Rattle.sdb_script.specs.declared.Stage.{Stage}
use Rattle.sdb_serve.specs.StageLines.{IsInOrder, after_enact, after_enacting, after_log, after_stage, enact_reply, log_reply, stage_answered, stage_reply}

-- ---- a step gives the line's answer

logs_so : (p q : Pipeline) (answer : Logged) → LogsUncrowded p answer q → (answer ≡ log_reply p) × (q ≡ after_log p)
logs_so p q (logged.Commit n) h =
    let some = ne_eqb p.numbers.logged p.numbers.accepted (λ e. absurd (omega (arith, e, h.0))) in
    (rw (some, h.1) refl, rw (some, h.2, h.1) refl)
logs_so p q (logged.Started column bits chunk) h = absurd h
logs_so p q (logged.Moved column bits left) h = absurd h
logs_so p q logged.Idle h =
    let none = eq-eqb p.numbers.logged p.numbers.accepted h.0 in
    (rw none refl, rw (none, h.1) refl)

enacts_so : (p q : Pipeline) (answer : Option ℕ) → Enacts p answer q → (answer ≡ enact_reply p) × (q ≡ after_enact p)
enacts_so p q None h =
    let none = eq-eqb p.ready 0 h.0 in
    (rw none refl, rw (none, h.1) refl)
enacts_so p q (Some n) h =
    let some = ne_eqb p.ready 0 (λ e. absurd (omega (arith, e, h.2))) in
    let left : h.0 ≡ p.ready - 1 = omega (arith, h.2) in
    (rw (some, h.3) refl, rw (some, h.3, h.4, left) refl)

grows_so : (p q : Pipeline) (answer : Grown) → GrowsUncrowded p answer q → (answer ≡ grown.Idle) × (q ≡ p)
grows_so p q (grown.Moved column bits left) h = absurd h
grows_so p q grown.Idle h = (refl, h)

pub steps_so : (p q : Pipeline) (answer : StageAnswer) → StepsUncrowded p answer q → (answer ≡ stage_reply p (stage_answered answer)) × (q ≡ after_stage p (stage_answered answer))
unfolding stage_reply after_stage
steps_so p q (answers.Logged answer) h = let so = logs_so p q answer h in (ap answers.Logged so.0, so.1)
steps_so p q (answers.Flushed n) h = (ap answers.Flushed h.0, h.1)
steps_so p q (answers.Enacted answer) h = let so = enacts_so p q answer h in (ap answers.Enacted so.0, so.1)
steps_so p q (answers.Cleaned n) h = (ap answers.Cleaned h.0, h.1)
steps_so p q (answers.Grown answer) h = let so = grows_so p q answer h in (ap answers.Grown so.0, so.1)

-- the same of the stage that was asked for
pub step_of : (p q : Pipeline) (stage : Stage) (answer : StageAnswer) → stage_answered answer ≡ stage → StepsUncrowded p answer q → (answer ≡ stage_reply p stage) × (q ≡ after_stage p stage)
step_of p q stage answer e h = subst (λ (t : Stage). (answer ≡ stage_reply p t) × (q ≡ after_stage p t)) e (steps_so p q answer h)

-- ---- the line's answer is a step's

logs_as : (p q : Pipeline) (answer : Logged) (none : Bool) → (p.numbers.logged == p.numbers.accepted) ≡ none → p.numbers.logged ≤ p.numbers.accepted
    → answer ≡ cond none logged.Idle (logged.Commit (p.numbers.logged + 1)) → q ≡ cond none p (with_record p (p.numbers.logged + 1)) → LogsUncrowded p answer q
logs_as p q answer true t le e f = subst (λ (a : Logged). LogsUncrowded p a q) (sym e) (eqb-true p.numbers.logged p.numbers.accepted t, f)
logs_as p q answer false t le e f =
    let apart : p.numbers.logged ≢ p.numbers.accepted = eqb-false p.numbers.logged p.numbers.accepted t in
    subst (λ (a : Logged). LogsUncrowded p a q) (sym e) (omega (arith, apart, le), refl, f)

enacts_as : (p q : Pipeline) (answer : Option ℕ) (waiting : List ℕ) (none : Bool) → p.waiting ≡ waiting → (p.ready == 0) ≡ none → p.ready ≤ length waiting
    → answer ≡ cond none None (slice_get waiting 0) → q ≡ cond none p (after_enacting p waiting) → Enacts p answer q
enacts_as p q answer waiting true w t le e f = subst (λ (a : Option ℕ). Enacts p a q) (sym e) (eqb-true p.ready 0 t, f)
enacts_as p q answer [] false w t le e f =
    let some : p.ready ≢ 0 = eqb-false p.ready 0 t in
    absurd (omega (arith, some, le))
enacts_as p q answer (n ∷ rest) false w t le e f =
    let some : p.ready ≢ 0 = eqb-false p.ready 0 t in
    subst (λ (a : Option ℕ). Enacts p a q) (sym e) (p.ready - 1, rest, omega (arith, some), w, f)

same_logged : (x y : Logged) → answers.Logged x ≡ answers.Logged y → x ≡ y
same_logged x y e = cc

same_enacted : (x y : Option ℕ) → answers.Enacted x ≡ answers.Enacted y → x ≡ y
same_enacted x y e = cc

same_flushed : (x y : ℕ) → answers.Flushed x ≡ answers.Flushed y → x ≡ y
same_flushed x y e = cc

same_cleaned : (x y : ℕ) → answers.Cleaned x ≡ answers.Cleaned y → x ≡ y
same_cleaned x y e = cc

same_grown : (x y : Grown) → answers.Grown x ≡ answers.Grown y → x ≡ y
same_grown x y e = cc

pub steps_as : (p q : Pipeline) (answer : StageAnswer) → IsInOrder p → answer ≡ stage_reply p (stage_answered answer) → q ≡ after_stage p (stage_answered answer) → StepsUncrowded p answer q
unfolding stage_reply after_stage
steps_as p q (answers.Logged answer) order e f = logs_as p q answer (p.numbers.logged == p.numbers.accepted) refl order.logged (same_logged _ _ e) f
steps_as p q (answers.Flushed n) order e f = (same_flushed _ _ e, f)
steps_as p q (answers.Enacted answer) order e f = enacts_as p q answer p.waiting (p.ready == 0) refl refl order.flushed (same_enacted _ _ e) f
steps_as p q (answers.Cleaned n) order e f = (same_cleaned _ _ e, f)
steps_as p q (answers.Grown answer) order e f = subst (λ (a : Grown). GrowsUncrowded p a q) (sym (same_grown _ _ e)) f
