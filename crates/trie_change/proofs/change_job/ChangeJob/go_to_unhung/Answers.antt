use Rattle.std.proofs.Common.{List, None, ap, subst, sym}
use Rattle.std.specs.List.{AllByRecursion}
use Rattle.std.specs.Prelude.{Option}
use Rattle.trie_model.specs.State.{apply}
use Rattle.trie_change.specs.declared.frontier.Stub.{Stub}
use Rattle.trie_change.specs.declared.settings.Setting.{Setting}
use Rattle.trie_change.specs.inner.Pieces.{IsAside, all_items, back_items}
use Rattle.trie_change.specs.inner.Stages.{IsCarriedOut}
use Rattle.trie_change.proofs.LimitsKept.{limits_moved}
use Rattle.trie_change.proofs.PieceMoves.{apart_of_none}
use Rattle.trie_change.proofs.StageMoves.{moved_after, under_way_after, waits_after}
use Rattle.trie_change.proofs.change_job.ChangeJob.go_to_unhung.Goals as goal

pub returns-clause-limits : goal.returns-clause-limits
returns-clause-limits c =
    let l = limits_moved (all_items c.args.self.now.found.items) (back_items c.args.self.now.later.items) (all_items c.move_to_unhung.new.found.items) (back_items c.move_to_unhung.new.later.items) c.move_to_unhung.result
    c.requires.limits.found c.requires.limits.later c.move_to_unhung.ensures.items in
    record {
      settings = c.requires.limits.settings;
      rising = c.requires.limits.rising;
      found = l.found_limited;
      wanted = l.wanted_limited;
      later = l.later_limited;
      found_apart = subst (λ (ss : List Setting). AllByRecursion (IsAside ss) c.move_to_unhung.new.found.items) (sym c.requires.settings) (apart_of_none c.move_to_unhung.new.found.items);
      later_apart = subst (λ (ss : List Setting). AllByRecursion (IsAside ss) c.move_to_unhung.new.later.items) (sym c.requires.settings) (apart_of_none c.move_to_unhung.new.later.items);
    }

pub returns-clause-stage : goal.returns-clause-stage
returns-clause-stage c = λ m changes todo out.
    let j = c.args.self.now in
    let before : IsCarriedOut (record { settings = j.settings.items; fed = j.fed.items; wanted = None; found = (all_items j.found.items); later = (back_items j.later.items) }) m changes todo =
    subst (λ (o : Option Stub). IsCarriedOut (record { settings = j.settings.items; fed = j.fed.items; wanted = o; found = (all_items j.found.items); later = (back_items j.later.items) }) m changes todo)
    c.requires.wanted out in
    let after = moved_after j.settings.items j.fed.items (all_items j.found.items) (back_items j.later.items) (all_items c.move_to_unhung.new.found.items) (back_items c.move_to_unhung.new.later.items) c.move_to_unhung.result m changes todo before
    c.move_to_unhung.ensures.items (c.move_to_unhung.ensures.hanging (apply m changes) before.after before.held.frontier before.hanging) in
    record {
      under_way = under_way_after j.settings.items (record { settings = j.settings.items; fed = j.fed.items; wanted = c.move_to_unhung.result; found = (all_items c.move_to_unhung.new.found.items); later = (back_items c.move_to_unhung.new.later.items) })
          m changes todo c.requires.settings after;
      waiting = waits_after j.settings.items (record { settings = j.settings.items; fed = j.fed.items; wanted = c.move_to_unhung.result; found = (all_items c.move_to_unhung.new.found.items); later = (back_items c.move_to_unhung.new.later.items) })
          c.requires.settings (λ e. ap back_items (c.move_to_unhung.ensures.last e));
    }
