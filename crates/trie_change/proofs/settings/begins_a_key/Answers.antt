use Rattle.std.proofs.Common.{◌≡◌, ◌<◌, true, length, List, ℕ, ap, subst, sym, ◌∙◌, arith}
use Rattle.std.specs.Prelude.{nat_eq}
use Rattle.std.specs.List.{AllWithin, starts_with}
use Rattle.trie_change.specs.declared.settings.Setting.{Setting}
use Rattle.trie_change.proofs.KeysBegun.{first_begins, is_before, none_begins}
use Rattle.trie_change.proofs.settings.begins_a_key.Goals as goal

pub returns-then-first-settings : goal.returns-then-first-settings
returns-then-first-settings c = λ rising.
    let xs = c.args.settings.now in
    let path = c.args.path.now in
    sym (none_begins xs path (subst (AllWithin (λ (s : Setting). is_before path s ≡ true) xs 0) c.if-first-settings.true (c.first_from-first.ensures.below rising)))

pub returns : goal.returns
returns c = λ rising.
    let xs = c.args.settings.now in
    let path = c.args.path.now in
    let few : c.first_from-first.result < length xs = omega (arith, c.first_from-first.ensures.bound) in
    c.begins_with.ensures
    ∙ ap (λ (p : List ℕ). starts_with nat_eq p path) c.as_slice.ensures
    ∙ sym (first_begins xs path c.first_from-first.result c.index-settings-first.result rising few (c.first_from-first.ensures.below rising) (c.first_from-first.ensures.others rising))
