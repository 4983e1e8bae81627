use Rattle.std.proofs.Common.{◌≡◌, ℕ, List, [], ◌∷◌, ◌++◌, None, Some, Option, ap, reverse, subst, sym, ◌∙◌, arith}
use Rattle.std.specs.List.{AllByRecursion}
use Rattle.std.specs.Prelude.{IfSome}
use Rattle.sdb_base.specs.declared.node.NodeHash.{NodeHash}
use Rattle.trie_model.specs.Node.{IsPartial}
use Rattle.trie_root.proofs.ShapesBytes.{all_joined}
use Rattle.trie_change.specs.Changing.{IsLimitedSetting}
use Rattle.trie_change.specs.Frontier.{IsLimited}
use Rattle.trie_change.specs.declared.settings.Setting.{Setting}
use Rattle.trie_change.specs.inner.InOrder.{IsRising}
use Rattle.trie_change.specs.declared.frontier.Fed.{Fed}
use Rattle.trie_change.specs.declared.frontier.Piece.{Piece}
use Rattle.trie_change.specs.declared.frontier.Stub.{Stub}
use Rattle.trie_change.specs.inner.Pieces.{IsAside, all_items, back_items}
use Rattle.trie_change.specs.inner.Stages.{IsFedSoFar, IsUnderWay}
use Rattle.trie_change.proofs.CarriedOver.{all_reversed}
use Rattle.trie_change.proofs.PieceMoves.{later_are}
use Rattle.trie_change.proofs.TakenStage.{taken, wants_of, with_wanted}
use Rattle.trie_change.proofs.change_job.ChangeJob.take.Goals as goal

pub push_reserved-requires : goal.push_reserved-requires
push_reserved-requires c = omega (arith, c.in_ok-make_room.ensures.room.1)

pub move_all-requires : goal.move_all-requires
move_all-requires c = omega (arith, c.in_ok-make_room.ensures.room.0.among_later, c.len.ensures)

pub go_on-requires-clause-room : goal.go_on-requires-clause-room
go_on-requires-clause-room c = record {
  among_found = omega (arith, c.in_ok-make_room.ensures.room.0.among_found, c.move_all.ensures.len, c.len.ensures);
  among_later = omega (arith, c.in_ok-make_room.ensures.room.0.among_later, c.move_all.ensures.len, c.move_all.ensures.capacity, c.len.ensures);
}

pub go_on-requires-clause-limits : goal.go_on-requires-clause-limits
go_on-requires-clause-limits c =
    let j = c.args.self.now in
    let same : j.settings.items ≡ c.make_room.new.self.settings.items = sym (ap (λ v. v.items) c.make_room.ensures.settings) in
    let still : (ps : List Piece) → AllByRecursion (IsAside j.settings.items) ps → AllByRecursion (IsAside c.make_room.new.self.settings.items) ps =
    λ ps. subst (λ (ss : List Setting). AllByRecursion (IsAside ss) ps) same in
    record {
      settings = subst (AllByRecursion IsLimitedSetting) same c.requires.limits.settings;
      rising = subst IsRising same c.requires.limits.rising;
      found = subst (λ (ps : List Piece). AllByRecursion IsLimited (all_items ps)) (sym c.make_room.ensures.found) c.requires.limits.found;
      wanted = subst (λ (o : Option Stub). IfSome o (λ (s : Stub). IsPartial s.path.items)) (sym c.take.ensures.after) tt;
      later = subst (AllByRecursion IsLimited) (sym (later_are c.make_room.new.self.later.items j.later.items c.move_all.new.later.items c.args.pieces.items c.make_room.ensures.later c.move_all.ensures.items))
          (all_joined IsLimited (back_items j.later.items) (reverse (all_items c.args.pieces.items)) c.requires.limits.later (all_reversed IsLimited (all_items c.args.pieces.items) c.requires.limited));
      found_apart = still c.make_room.new.self.found.items (subst (AllByRecursion (IsAside j.settings.items)) (sym c.make_room.ensures.found) c.requires.limits.found_apart);
      later_apart = still c.move_all.new.later.items (subst (AllByRecursion (IsAside j.settings.items)) (sym c.move_all.ensures.items)
          (all_joined (IsAside j.settings.items) c.make_room.new.self.later.items (reverse c.args.pieces.items)
          (subst (AllByRecursion (IsAside j.settings.items)) (sym c.make_room.ensures.later) c.requires.limits.later_apart)
          (all_reversed (IsAside j.settings.items) c.args.pieces.items c.requires.apart)));
    }

abbrev path_at : Option Stub → List ℕ
path_at None = []
path_at (Some s) = s.path.items

abbrev hash_at : NodeHash → Option Stub → NodeHash
hash_at none None = none
hash_at none (Some s) = s.hash

pub returns-clause-taken : goal.returns-clause-taken
returns-clause-taken c = λ m changes n todo s node changing is bytes read known.
    let j = c.args.self.now in
    let f : Fed = record { path = c.in-Some.field-0.path; hash = c.in-Some.field-0.hash; bytes = c.args.bytes } in
    let same : Some c.in-Some.field-0 ≡ Some s = sym c.in-Some.is ∙ c.take.ensures.value ∙ c.make_room.ensures.wanted ∙ is in
    let path : f.path.items ≡ s.path.items = ap path_at same in
    let hash : f.hash ≡ s.hash = ap (hash_at f.hash) same in
    let before : IsUnderWay j.settings.items (with_wanted j.settings.items j.fed.items (Some s) (all_items j.found.items) (back_items j.later.items)) m changes (n ∷ todo) =
    subst (λ (o : Option Stub). IsUnderWay j.settings.items (with_wanted j.settings.items j.fed.items o (all_items j.found.items) (back_items j.later.items)) m changes (n ∷ todo)) is changing.stage.under_way in
    let after : IsUnderWay j.settings.items (with_wanted j.settings.items (j.fed.items ++ f ∷ []) None (all_items j.found.items) (back_items c.move_all.new.later.items)) m changes todo =
    taken m changes changing.within j.fed.items (all_items j.found.items) (back_items j.later.items) s n todo f (all_items c.args.pieces.items) (back_items c.move_all.new.later.items) node path hash bytes read known
    (later_are c.make_room.new.self.later.items j.later.items c.move_all.new.later.items c.args.pieces.items c.make_room.ensures.later c.move_all.ensures.items) j.settings.items j.settings.items before in
    let fed_are : c.push_reserved.new.self.items ≡ j.fed.items ++ f ∷ [] =
    c.push_reserved.ensures.items ∙ ap (λ (fs : List Fed). fs ++ f ∷ []) c.make_room.ensures.fed in
    let stage : IsFedSoFar c.go_on.new.self m changes todo = c.go_on.ensures.stage m changes todo
    (subst (λ (ss : List Setting). IsUnderWay ss (with_wanted ss c.push_reserved.new.self.items c.take.new.self (all_items c.make_room.new.self.found.items) (back_items c.move_all.new.later.items)) m changes todo)
    (sym (ap (λ v. v.items) c.make_room.ensures.settings))
    (subst (λ (o : Option Stub). IsUnderWay j.settings.items (with_wanted j.settings.items c.push_reserved.new.self.items o (all_items c.make_room.new.self.found.items) (back_items c.move_all.new.later.items)) m changes todo)
    (sym c.take.ensures.after)
    (subst (λ (fs : List Fed). IsUnderWay j.settings.items (with_wanted j.settings.items fs None (all_items c.make_room.new.self.found.items) (back_items c.move_all.new.later.items)) m changes todo) (sym fed_are)
    (subst (λ (ps : List Piece). IsUnderWay j.settings.items (with_wanted j.settings.items (j.fed.items ++ f ∷ []) None (all_items ps) (back_items c.move_all.new.later.items)) m changes todo)
    (sym c.make_room.ensures.found) after)))) in
    record { within = changing.within; changes_within = changing.changes_within; wants = wants_of c.go_on.new.self m changes todo changing.within stage; stage = stage }
