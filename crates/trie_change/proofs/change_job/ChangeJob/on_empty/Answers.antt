use Rattle.std.proofs.Common.{◌≡◌, List, [], ◌++◌, reverse, Option, ap, subst, sym, ◌∙◌}
use Rattle.std.specs.Prelude.{IfSome}
use Rattle.std.specs.List.{AllByRecursion}
use Rattle.std.specs.Option.{option_map}
use Rattle.std.proofs.lemmas.List.{reverse-reverse}
use Rattle.trie_model.specs.Node.{IsPartial}
use Rattle.trie_model.specs.State.{apply, no_keys}
use Rattle.trie_model.specs.Trie.{suffixes_of}
use Rattle.trie_change.specs.Changing.{IsLimitedSetting}
use Rattle.trie_change.specs.Frontier.{IsFrontier, IsLimited}
use Rattle.trie_change.specs.declared.frontier.Piece.{Piece}
use Rattle.trie_change.specs.declared.frontier.Stub.{Stub}
use Rattle.trie_change.specs.declared.settings.Setting.{Setting}
use Rattle.trie_change.specs.inner.InOrder.{IsRising, stubs_of}
use Rattle.trie_change.specs.inner.Merged.{IsMerged}
use Rattle.trie_change.specs.inner.Pieces.{IsAside, all_items, back_items}
use Rattle.trie_change.proofs.Beginning.{made_of_nothing}
use Rattle.trie_change.proofs.CarriedOver.{all_reversed}
use Rattle.trie_change.proofs.LimitsKept.{limits_merged}
use Rattle.trie_change.proofs.PieceMoves.{apart_of_none}
use Rattle.trie_change.proofs.change_job.ChangeJob.on_empty.Goals as goal

all_found : (found later both : List Piece) → both ≡ found ++ reverse later → found ≡ [] → all_items both ≡ reverse (back_items later)
all_found found later both e f = ap all_items (e ∙ ap (λ (ps : List Piece). ps ++ reverse later) f) ∙ sym (reverse-reverse (all_items (reverse later)))

pub returns-clause-creating : goal.returns-clause-creating
returns-clause-creating c =
    let j = c.in_ok-job.job in
    let found : all_items c.move_all.new.later.items ≡ reverse (back_items c.carry_out.new.later.items) = all_found c.carry_out.new.found.items c.carry_out.new.later.items _ c.move_all.ensures.items c.carry_out.ensures.found in
    let merged : IsMerged (reverse []) (reverse j.settings.items) (back_items c.carry_out.new.later.items) =
    subst (λ (ps : List Piece). AllByRecursion (IsAside j.settings.items) ps → IsMerged (reverse (all_items ps)) (reverse j.settings.items) (back_items c.carry_out.new.later.items))
    c.in_ok-job.ensures.found c.carry_out.ensures.merged tt in
    let made = made_of_nothing c.args.changes j.settings.items (back_items c.carry_out.new.later.items) c.in_ok-job.ensures.settings c.in_ok-job.ensures.limits c.in_ok-job.ensures.bytes merged in
    record {
      changes_within = c.requires;
      wants = ap (option_map (λ (s : Stub). s.hash.0)) c.in_ok-job.ensures.wanted;
      stage = record {
        after = made.0;
        frontier = subst (IsFrontier (suffixes_of (apply no_keys c.args.changes))) (sym found) made.1;
        no_stubs = ap stubs_of found ∙ made.2;
        none_fed = c.in_ok-job.ensures.fed;
      };
    }

pub returns-clause-limits : goal.returns-clause-limits
returns-clause-limits c =
    let j = c.in_ok-job.job in
    let merged : IsMerged (reverse []) (reverse j.settings.items) (back_items c.carry_out.new.later.items) =
    subst (λ (ps : List Piece). AllByRecursion (IsAside j.settings.items) ps → IsMerged (reverse (all_items ps)) (reverse j.settings.items) (back_items c.carry_out.new.later.items))
    c.in_ok-job.ensures.found c.carry_out.ensures.merged tt in
    let later : AllByRecursion IsLimited (back_items c.carry_out.new.later.items) =
    limits_merged _ _ (back_items c.carry_out.new.later.items) merged tt (all_reversed IsLimitedSetting j.settings.items c.in_ok-job.ensures.limits) in
    record {
      settings = subst (AllByRecursion IsLimitedSetting) (sym c.carry_out.ensures.settings) tt;
      rising = subst IsRising (sym c.carry_out.ensures.settings) tt;
      found = subst (AllByRecursion IsLimited) (sym (all_found c.carry_out.new.found.items c.carry_out.new.later.items _ c.move_all.ensures.items c.carry_out.ensures.found))
          (all_reversed IsLimited (back_items c.carry_out.new.later.items) later);
      wanted = subst (λ (o : Option Stub). IfSome o (λ (s : Stub). IsPartial s.path.items)) (sym c.in_ok-job.ensures.wanted) tt;
      later = subst (λ (ps : List Piece). AllByRecursion IsLimited (back_items ps)) (sym c.move_all.ensures.none) tt;
      found_apart = subst (λ (ss : List Setting). AllByRecursion (IsAside ss) c.move_all.new.later.items) (sym c.carry_out.ensures.settings) (apart_of_none c.move_all.new.later.items);
      later_apart = subst (AllByRecursion (IsAside c.carry_out.new.settings.items)) (sym c.move_all.ensures.none) tt;
    }
