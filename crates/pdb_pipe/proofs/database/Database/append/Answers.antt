use Rattle.std.proofs.Common.{ℕ, ◌+◌, List, All, length, refl, sym, ◌∙◌, ap, subst, arith}
use Rattle.std.proofs.lemmas.List.Elements.{All-tail}
use Rattle.sdb_base.specs.Keeping.{Commits}
use Rattle.sdb_base.specs.declared.op.Op.{Op}
use Rattle.pdb_column.specs.Answers.{IsStorable}
use Rattle.pdb_log.specs.Tallies.{with_bytes}
use Rattle.pdb_model.specs.Records.{Record, record_bytes}
use Rattle.pdb_redo.specs.Reaches.{Reach, reach_of, with_logged}
use Rattle.pdb_redo.specs.Standing.{next_redo_record}
use Rattle.pdb_redo.specs.declared.recorded.Recorded.{Recorded}
use Rattle.pdb_redo.proofs.Kept.{standing_tells}
use Rattle.pdb_pipe.specs.inner.Order.{NumbersRise}
use Rattle.pdb_pipe.proofs.StageLogged.{append_rests, split_first, stands_logged}
use Rattle.pdb_pipe.proofs.StageOrder.{logged_in_order}
use Rattle.pdb_pipe.proofs.StageStands.{stands_on}
use Rattle.pdb_pipe.proofs.database.Database.append.Goals as goal

pub invariant_of-self : goal.invariant_of-self
invariant_of-self g c =
    let first = split_first c.args.self.now.queue c.requires.waits in
    let left = c.pop.ensures first.0 first.1 first.2 in
    let reach = c.in-Ok.ensures.reach in
    let n = ap (λ (r : Recorded). r.appended) c.recorded-number.ensures in
    record {
      counted = let was = c.args.self.now.counted in let l = ap (λ (r : Reach). r.logged) reach in let a = ap (λ (q : Commits). length q) first.2 in
          let b = ap (λ (q : Commits). length q) left in omega (arith, was, l, a, b, n);
      in_order = subst (λ (r : Reach). NumbersRise r c.args.self.now.cleaned) (sym reach)
          (logged_in_order (reach_of c.args.self.now.redo) c.args.self.now.cleaned (c.recorded-number.result.appended + 1) c.args.self.now.in_order (omega (arith, n)));
      storable = subst (λ (q : Commits). All (λ ops. All IsStorable ops) q) (sym left) (All-tail (λ (ops : List Op). All IsStorable ops) first.0 first.1 (subst (λ (q : Commits). All (λ ops. All IsStorable ops) q) first.2 c.args.self.now.storable));
    }

pub returns-in-Ok-clause-stands : goal.returns-in-Ok-clause-stands
returns-in-Ok-clause-stands g c commits s carry =
    let first = split_first c.args.self.now.queue c.requires.waits in
    let n = ap (λ (r : Recorded). r.appended) c.recorded-number.ensures in
    let at = s.rows c.requires.running in
    stands_logged g.D.Disk.tells g.D.Disk.clock g.D.Disk.past c.args.self.now _ first.0 first.1 c.args.puts first.2 (c.pop.ensures first.0 first.1 first.2) refl
    (c.in-Ok.ensures.reach ∙ ap (λ (k : ℕ). with_logged (reach_of c.args.self.now.redo) (k + 1)) n) c.append.ensures.told commits s carry
    at.0 at.1 (next_redo_record c.args.self.now.redo (c.recorded-number.result.appended + 1) c.args.puts) refl at.2 (λ row there. c.in-Ok.ensures.appended at.0 at.1 row at.2 there)

pub returns-in-Err-clause-stands : goal.returns-in-Err-clause-stands
returns-in-Err-clause-stands g c commits s carry =
    stands_on g.D.Disk.tells g.D.Disk.clock g.D.Disk.past c.args.self.now _ refl refl (ap (λ (r : Reach). r.logged) c.in-Err.ensures.reach) c.append.ensures.told commits s
    (λ rows f is. (
      c.in-Err.ensures.cells (standing_tells g.D.Disk.tells g.D.Disk.clock g.D.Disk.past c.args.self.now.redo rows f is) refl,
      λ none. (
        rows,
        f,
        (c.in-Err.ensures.refused (append_rests ℕ c.append.new.self.stopped (g.D.Disk.clock c.append.new.self.log.disk) c.in-Err.fault
            (c.in-Err.ensures.stops c.requires.running) none)).2 rows f is,
      ),
    ))
    (λ call e. (c.in-Err.ensures.stopped call e).1)

pub returns-in-Ok-clause-tally : goal.returns-in-Ok-clause-tally
returns-in-Ok-clause-tally g c t is =
    let record_at : ℕ → Record = λ k. record { number = k + 1; commits = c.recorded-number.result.appended + 1; puts = c.args.puts } in (
      with_bytes t (length (record_bytes (record_at c.args.self.now.redo.appended.number))),
      (c.args.puts, c.requires.whole, c.requires.once, ap (λ (k : ℕ). with_bytes t (length (record_bytes (record_at k)))) is.appended),
      c.in-Ok.ensures.tally t is,
    )
