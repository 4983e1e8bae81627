use Rattle.std.proofs.Common.{◌≡◌, ◌-◌, ℕ, List, true, subst, sym, ap, ◌∙◌, arith, rules}
use Rattle.std.specs.List.{AllWithin}
use Rattle.std.specs.Ordering.{is_lt}
use Rattle.std.proofs.lemmas.List.Sorted.{IsPartitionPoint-from_clause}
use Rattle.trie_change.specs.declared.settings.Setting.{Setting}
use Rattle.trie_change.proofs.KeysBegun.{below_before, is_before, others_after, parted}
use Rattle.trie_change.proofs.Orders.{key_cmp}
use Rattle.trie_change.proofs.settings.first_from.Goals as goal

pub returns-then-at-eq0-clause-others : goal.returns-then-at-eq0-clause-others
returns-then-at-eq0-clause-others c = λ rising. others_after c.args.settings.now c.args.path.now c.next_from.result rising c.next_from.ensures.stops

pub returns-then-is_below-clause-below : goal.returns-then-is_below-clause-below
returns-then-is_below-clause-below c = λ rising.
    let path = c.args.path.now in
    below_before c.args.settings.now path (c.args.at - 1) c.next_from-then-is_below.result c.index-settings-at.result rising (omega (arith, c.if-at-settings.true, c.if-at-eq0.false))
    (ap (λ (k : List ℕ). is_lt (key_cmp k path)) (sym c.as_slice.ensures) ∙ sym c.is_below.ensures ∙ c.if-is_below.true)
    (subst (λ (at : ℕ). AllWithin (λ (s : Setting). is_before path s ≡ true) c.args.settings.now at c.next_from-then-is_below.result) (omega (arith, c.if-at-eq0.false)) c.next_from-then-is_below.ensures.below)

pub returns-then-is_below-clause-others : goal.returns-then-is_below-clause-others
returns-then-is_below-clause-others c = λ rising. others_after c.args.settings.now c.args.path.now c.next_from-then-is_below.result rising c.next_from-then-is_below.ensures.stops

pub returns-clause-below : goal.returns-clause-below
returns-clause-below c = λ rising.
    let point = IsPartitionPoint-from_clause (is_before c.args.path.now) c.args.settings.now c.partition_point.result c.partition_point.ensures.partitioned (parted c.args.settings.now c.args.path.now rising) (λ a r q k. search rules) in
    point.0

pub returns-clause-others : goal.returns-clause-others
returns-clause-others c = λ rising.
    let point = IsPartitionPoint-from_clause (is_before c.args.path.now) c.args.settings.now c.partition_point.result c.partition_point.ensures.partitioned (parted c.args.settings.now c.args.path.now rising) (λ a r q k. search rules) in
    point.1
