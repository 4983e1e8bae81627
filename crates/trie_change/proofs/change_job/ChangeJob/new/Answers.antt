use Rattle.std.proofs.Common.{◌≡◌, List, [], ◌∷◌, ◌++◌, Option, ap, subst, sym, ◌∙◌, arith}
use Rattle.std.specs.Prelude.{IfSome}
use Rattle.std.specs.List.{AllByRecursion}
use Rattle.trie_model.specs.Node.{IsPartial}
use Rattle.trie_change.specs.Frontier.{IsLimited}
use Rattle.trie_model.specs.Fetches.{change_fetches}
use Rattle.trie_change.specs.declared.frontier.Piece.{Piece}
use Rattle.trie_change.specs.declared.frontier.Piece.TheVariants as piece
use Rattle.trie_change.specs.declared.frontier.Stub.{Stub}
use Rattle.trie_change.specs.inner.Pieces.{IsAside, all_items, back_items}
use Rattle.trie_change.specs.inner.Stages.{IsFedSoFar}
use Rattle.trie_change.proofs.Beginning.{begins, in_parts}
use Rattle.trie_change.proofs.SetBy.{rises}
use Rattle.trie_change.proofs.TakenStage.{wants_of}
use Rattle.trie_change.proofs.change_job.ChangeJob.new.Goals as goal

pub returns-clause-changing : goal.returns-clause-changing
returns-clause-changing c = λ m within root.
    let j = c.in_ok-job.job in
    let s : Stub = record { path = c.new-path.result; hash = c.args.root } in
    let stage : IsFedSoFar c.go_on.new.self m c.args.changes (change_fetches m c.args.changes) =
    c.go_on.ensures.stage m c.args.changes (change_fetches m c.args.changes)
    (in_parts j.settings.items j.fed.items j.wanted (all_items j.found.items) (back_items c.push_reserved.new.self.items) m c.args.changes (change_fetches m c.args.changes) s
    c.in_ok-job.ensures.fed c.in_ok-job.ensures.wanted (ap all_items c.in_ok-job.ensures.found)
    (ap back_items (c.push_reserved.ensures.items ∙ ap (λ (ps : List Piece). ps ++ piece.Stub s ∷ []) c.in_ok-job.ensures.later))
    (begins j.settings.items m c.args.changes s within c.in_ok-job.ensures.settings c.in_ok-job.ensures.limits c.in_ok-job.ensures.bytes c.new-path.ensures.items root)) in
    record {
      within = within;
      changes_within = c.requires;
      wants = wants_of c.go_on.new.self m c.args.changes (change_fetches m c.args.changes) within stage;
      stage = stage;
    }

pub go_on-requires-clause-limits : goal.go_on-requires-clause-limits
go_on-requires-clause-limits c =
    let j = c.in_ok-job.job in
    let later : c.push_reserved.new.self.items ≡ piece.Stub (record { path = c.new-path.result; hash = c.args.root }) ∷ [] =
    c.push_reserved.ensures.items ∙ ap (λ (ps : List Piece). ps ++ piece.Stub (record { path = c.new-path.result; hash = c.args.root }) ∷ []) c.in_ok-job.ensures.later in
    record {
      settings = c.in_ok-job.ensures.limits;
      rising = rises j.settings.items c.args.changes c.in_ok-job.ensures.settings;
      found = subst (λ (ps : List Piece). AllByRecursion IsLimited (all_items ps)) (sym c.in_ok-job.ensures.found) tt;
      wanted = subst (λ (o : Option Stub). IfSome o (λ (s : Stub). IsPartial s.path.items)) (sym c.in_ok-job.ensures.wanted) tt;
      later = subst (λ (ps : List Piece). AllByRecursion IsLimited (back_items ps)) (sym later) (subst IsPartial (sym c.new-path.ensures.items) no_nibbles, tt);
      found_apart = subst (AllByRecursion (IsAside j.settings.items)) (sym c.in_ok-job.ensures.found) tt;
      later_apart = subst (AllByRecursion (IsAside j.settings.items)) (sym later) (tt, tt);
    }
  where
    no_nibbles : IsPartial []
    no_nibbles = record { nibbles = λ i d lt. absurd (omega (arith, lt)); short = omega arith }
