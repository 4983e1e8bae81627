use Rattle.std.proofs.Common.{◌≡◌, true, List, [], None, ap, subst, sym, ◌∙◌, arith}
use Rattle.std.specs.List.{AllByRecursion}
use Rattle.std.specs.Prelude.{IfSome, Option}
use Rattle.trie_change.specs.Changing.{IsLimitedSetting}
use Rattle.trie_change.specs.Frontier.{IsLimited}
use Rattle.trie_change.specs.inner.InOrder.{IsOff, IsRising, begins_one}
use Rattle.trie_change.specs.inner.Pieces.{IsAside, all_items, back_items}
use Rattle.trie_change.specs.inner.Stages.{IsCarriedOut, IsOnTheWay, IsUnderWay}
use Rattle.trie_change.specs.declared.frontier.Piece.{Piece}
use Rattle.trie_change.specs.declared.frontier.Stub.{Stub}
use Rattle.trie_change.specs.declared.settings.Setting.{Setting}
use Rattle.trie_change.proofs.CarriedOver.{all_reversed}
use Rattle.trie_change.proofs.GoingOn.{after_set, no_settings, none_left, some_settings}
use Rattle.trie_change.proofs.LimitsKept.{limits_merged, limits_moved}
use Rattle.trie_change.proofs.PieceMoves.{apart_of_none}
use Rattle.trie_change.proofs.SetBy.{rises}
use Rattle.trie_change.proofs.StageMoves.{is_carried_out, is_on_the_way, moved_there, under_way_there, waits_there}
use Rattle.trie_change.proofs.change_job.ChangeJob.go_on.Goals as goal

pub returns-then-is_empty-clause-stage : goal.returns-then-is_empty-clause-stage
returns-then-is_empty-clause-stage c = λ m changes todo u.
    let j = c.args.self.now in
    let none : j.settings.items ≡ [] = no_settings j.settings.items j.settings.len c.is_empty.result j.settings.ok.0 c.is_empty.ensures c.if-is_empty.true in
    c.go_to_unhung.ensures.stage m changes todo
    (is_carried_out j.settings.items (record { settings = j.settings.items; fed = j.fed.items; wanted = j.wanted; found = (all_items j.found.items); later = (back_items j.later.items) }) m changes todo none u)

pub returns-then-is_some-clause-limits : goal.returns-then-is_some-clause-limits
returns-then-is_some-clause-limits c =
    let l = limits_moved (all_items c.args.self.now.found.items) (back_items c.args.self.now.later.items) (all_items c.move_to_set.new.found.items) (back_items c.move_to_set.new.later.items) c.move_to_set.result
    c.requires.limits.found c.requires.limits.later c.move_to_set.ensures.items in
    record {
      settings = c.requires.limits.settings;
      rising = c.requires.limits.rising;
      found = l.found_limited;
      wanted = l.wanted_limited;
      later = l.later_limited;
      found_apart = (subst (λ (ss : List Setting). AllByRecursion (IsAside ss) c.args.self.now.found.items → AllByRecursion (IsAside ss) c.args.self.now.later.items
          → AllByRecursion (IsAside ss) c.move_to_set.new.found.items) c.as_slice.ensures.value c.move_to_set.ensures.found_apart c.requires.limits.found_apart c.requires.limits.later_apart);
      later_apart = (subst (λ (ss : List Setting). AllByRecursion (IsAside ss) c.args.self.now.later.items → AllByRecursion (IsAside ss) c.move_to_set.new.later.items) c.as_slice.ensures.value
          c.move_to_set.ensures.later_apart c.requires.limits.later_apart);
    }

pub returns-then-is_some-clause-stage : goal.returns-then-is_some-clause-stage
returns-then-is_some-clause-stage c = λ m changes todo u.
    let j = c.args.self.now in
    let some : j.settings.items ≡ [] → ⊥ = some_settings j.settings.items j.settings.len c.is_empty.result j.settings.ok.0 c.is_empty.ensures c.if-is_empty.false in
    let before : IsOnTheWay (record { settings = j.settings.items; fed = j.fed.items; wanted = None; found = (all_items j.found.items); later = (back_items j.later.items) }) m changes todo =
    subst (λ (o : Option Stub). IsOnTheWay (record { settings = j.settings.items; fed = j.fed.items; wanted = o; found = (all_items j.found.items); later = (back_items j.later.items) }) m changes todo)
    c.requires.wanted (is_on_the_way j.settings.items (record { settings = j.settings.items; fed = j.fed.items; wanted = j.wanted; found = (all_items j.found.items); later = (back_items j.later.items) }) m changes todo some u) in
    let after : IsOnTheWay (record { settings = j.settings.items; fed = j.fed.items; wanted = c.move_to_set.result; found = (all_items c.move_to_set.new.found.items); later = (back_items c.move_to_set.new.later.items) }) m changes todo =
    moved_there j.settings.items j.fed.items (all_items j.found.items) (back_items j.later.items) (all_items c.move_to_set.new.found.items) (back_items c.move_to_set.new.later.items) c.move_to_set.result m changes todo before
    c.move_to_set.ensures.items
    (λ a. subst (λ (ss : List Setting). IsRising ss → AllByRecursion (IsOff ss) (all_items j.found.items) → AllByRecursion (IsAside ss) j.later.items
    → AllByRecursion (IsOff ss) (all_items c.move_to_set.new.found.items)) c.as_slice.ensures.value
    c.move_to_set.ensures.off (rises j.settings.items changes before.set) a c.requires.limits.later_apart)
    (subst (λ (ss : List Setting). IsRising ss → IfSome c.move_to_set.result (λ s. begins_one ss s.path.items ≡ true)) c.as_slice.ensures.value
    c.move_to_set.ensures.wanted (rises j.settings.items changes before.set)) in
    record {
      under_way = under_way_there j.settings.items (record { settings = j.settings.items; fed = j.fed.items; wanted = c.move_to_set.result; found = (all_items c.move_to_set.new.found.items); later = (back_items c.move_to_set.new.later.items) })
          m changes todo some after;
      waiting = waits_there j.settings.items (record { settings = j.settings.items; fed = j.fed.items; wanted = c.move_to_set.result; found = (all_items c.move_to_set.new.found.items); later = (back_items c.move_to_set.new.later.items) })
          some (sym c.is_some.ensures ∙ c.if-is_some.true);
    }

pub go_to_unhung-requires-2-clause-room : goal.go_to_unhung-requires-2-clause-room
go_to_unhung-requires-2-clause-room c =
    omega (arith, c.carry_out.ensures.room, c.carry_out.ensures.found_capacity, c.move_to_set.ensures.room, c.move_to_set.ensures.capacity, c.requires.room.among_found)

pub go_to_unhung-requires-2-clause-limits : goal.go_to_unhung-requires-2-clause-limits
go_to_unhung-requires-2-clause-limits c =
    let l = limits_moved (all_items c.args.self.now.found.items) (back_items c.args.self.now.later.items) (all_items c.move_to_set.new.found.items) (back_items c.move_to_set.new.later.items) c.move_to_set.result
    c.requires.limits.found c.requires.limits.later c.move_to_set.ensures.items in
    let merged : AllByRecursion IsLimited (back_items c.carry_out.new.later.items) =
    limits_merged _ _ (back_items c.carry_out.new.later.items) (c.carry_out.ensures.merged (subst (λ (ss : List Setting). AllByRecursion (IsAside ss) c.args.self.now.found.items → AllByRecursion (IsAside ss) c.args.self.now.later.items
    → AllByRecursion (IsAside ss) c.move_to_set.new.found.items) c.as_slice.ensures.value c.move_to_set.ensures.found_apart c.requires.limits.found_apart c.requires.limits.later_apart)) (all_reversed IsLimited (all_items c.move_to_set.new.found.items) l.found_limited)
    (all_reversed IsLimitedSetting c.args.self.now.settings.items c.requires.limits.settings) in
    record {
      settings = subst (AllByRecursion IsLimitedSetting) (sym c.carry_out.ensures.settings) tt;
      rising = subst IsRising (sym c.carry_out.ensures.settings) tt;
      found = subst (λ (ps : List Piece). AllByRecursion IsLimited (all_items ps)) (sym c.carry_out.ensures.found) tt;
      wanted = l.wanted_limited;
      later = merged;
      found_apart = subst (AllByRecursion (IsAside c.carry_out.new.settings.items)) (sym c.carry_out.ensures.found) tt;
      later_apart = subst (λ (ss : List Setting). AllByRecursion (IsAside ss) c.carry_out.new.later.items) (sym c.carry_out.ensures.settings) (apart_of_none c.carry_out.new.later.items);
    }

pub returns-clause-stage : goal.returns-clause-stage
returns-clause-stage c = λ m changes todo u.
    let j = c.args.self.now in
    let some : j.settings.items ≡ [] → ⊥ = some_settings j.settings.items j.settings.len c.is_empty.result j.settings.ok.0 c.is_empty.ensures c.if-is_empty.false in
    let none : c.move_to_set.result ≡ None = none_left c.move_to_set.result c.is_some.result c.is_some.ensures c.if-is_some.false in
    let way : IsUnderWay j.settings.items (record { settings = j.settings.items; fed = j.fed.items; wanted = None; found = (all_items j.found.items); later = (back_items j.later.items) }) m changes todo =
    subst (λ (o : Option Stub). IsUnderWay j.settings.items (record { settings = j.settings.items; fed = j.fed.items; wanted = o; found = (all_items j.found.items); later = (back_items j.later.items) }) m changes todo)
    c.requires.wanted u in
    let out : IsCarriedOut (record { settings = []; fed = j.fed.items; wanted = None; found = []; later = (back_items c.carry_out.new.later.items) }) m changes todo =
    after_set j.settings.items j.fed.items (all_items j.found.items) (back_items j.later.items) (all_items c.move_to_set.new.found.items) (back_items c.move_to_set.new.later.items) (back_items c.carry_out.new.later.items) c.move_to_set.result m changes todo
    some way c.move_to_set.ensures.items
    (λ a. subst (λ (ss : List Setting). IsRising ss → AllByRecursion (IsOff ss) (all_items j.found.items) → AllByRecursion (IsAside ss) j.later.items
    → AllByRecursion (IsOff ss) (all_items c.move_to_set.new.found.items)) c.as_slice.ensures.value c.move_to_set.ensures.off (rises j.settings.items changes
    (is_on_the_way j.settings.items (record { settings = j.settings.items; fed = j.fed.items; wanted = None; found = (all_items j.found.items); later = (back_items j.later.items) }) m changes todo some way).set)
    a c.requires.limits.later_apart)
    none (ap back_items (c.move_to_set.ensures.last none)) (c.carry_out.ensures.merged (subst (λ (ss : List Setting). AllByRecursion (IsAside ss) c.args.self.now.found.items → AllByRecursion (IsAside ss) c.args.self.now.later.items
    → AllByRecursion (IsAside ss) c.move_to_set.new.found.items) c.as_slice.ensures.value c.move_to_set.ensures.found_apart c.requires.limits.found_apart c.requires.limits.later_apart)) in
    let there : IsCarriedOut (record { settings = c.carry_out.new.settings.items; fed = j.fed.items; wanted = None; found = (all_items c.carry_out.new.found.items); later = (back_items c.carry_out.new.later.items) }) m changes todo =
    subst (λ (ss : List Setting). IsCarriedOut (record { settings = ss; fed = j.fed.items; wanted = None; found = (all_items c.carry_out.new.found.items); later = (back_items c.carry_out.new.later.items) }) m changes todo) (sym c.carry_out.ensures.settings)
    (subst (λ (ps : List Piece). IsCarriedOut (record { settings = []; fed = j.fed.items; wanted = None; found = all_items ps; later = (back_items c.carry_out.new.later.items) }) m changes todo) (sym c.carry_out.ensures.found) out) in
    c.go_to_unhung-2.ensures.stage m changes todo
    (subst (λ (o : Option Stub). IsCarriedOut (record { settings = c.carry_out.new.settings.items; fed = j.fed.items; wanted = o; found = (all_items c.carry_out.new.found.items); later = (back_items c.carry_out.new.later.items) }) m changes todo)
    (sym none) there)
