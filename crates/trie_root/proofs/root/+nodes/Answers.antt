use Rattle.std.proofs.Common.{rules, ◌≡◌, ℕ, ◌+◌, ◌-◌, ◌≤◌, List, Option, length, take, drop, sym, ap, subst, ◌∙◌, arith, length-drop}
use Rattle.std.proofs.lemmas.List.{take_rest}
use Rattle.std.proofs.lemmas.List.Elements.{All-same}
use Rattle.std.proofs.lemmas.Result.{IfOk-weaker}
use Rattle.std.specs.Prelude.{IfSome}
use Rattle.sdb_base.specs.declared.Pair.{Pair}
use Rattle.trie_model.specs.Node.{HasCompactLength, spelling}
use Rattle.trie_model.specs.Trie.{child_value, common_prefix, node_of_all}
use Rattle.trie_root.specs.inner.Groups.{IsGroup, child_below, children_over, node_between, suffixes_from}
use Rattle.trie_root.proofs.OneNode.{end_of, node_of_pairs, group_further}
use Rattle.trie_root.proofs.PairGroups.{goes_on-take, group_of_next}
use Rattle.trie_root.proofs.Remains.{Remains, all_remains, first_children, first_children-all, first_children-push, first_children-none, remains_further, group_below}
use Rattle.trie_root.proofs.Short.{end_of_key, end_of_longest, short_children, sixteen_children}
use Rattle.trie_root.proofs.root.+nodes.Goals as goal

further : (at n : ℕ) (pairs : List Pair) → n ≡ length (common_prefix (suffixes_from at pairs)) → IsGroup at pairs → IsGroup (at + n) pairs
further at n pairs e r = subst (λ (m : ℕ). IsGroup (at + m) pairs) (sym e) (group_further at pairs r)

pub children_of-loop-nibble-init : goal.children_of-loop-nibble-init
children_of-loop-nibble-init t c = record {
  children = c.in_ok-children.ensures.items ∙ first_children-none (suffixes_from c.args.at c.args.pairs.now);
  rest = all_remains c.args.at c.args.pairs.now c.requires.pairs;
  short = omega arith;
}

pub children_of-child_of-requires : goal.children_of-child_of-requires
children_of-child_of-requires t c =
    let n = c.group_len-count.result in
    let rest = c.loop-nibble.rest.now in (
      search rules,
      (
        c.requires.at,
        group_of_next c.args.at c.loop-nibble.nibble (take n rest) (goes_on-take c.args.at n rest c.loop-nibble.invariant.rest.on) c.group_len-count.ensures.group,
      ),
    )

pub children_of-loop-nibble-preserved : goal.children_of-loop-nibble-preserved
children_of-loop-nibble-preserved t c =
    let at = c.args.at in
    let pairs = c.args.pairs.now in
    let nibble = c.loop-nibble.nibble in
    let n = c.group_len-count.result in
    let rest = c.loop-nibble.rest.now in
    let ss = suffixes_from at pairs in
    let child : c.in_ok-child_of.field-0 ≡ child_below ss nibble =
    c.in_ok-child_of.ensures ∙ ap (child_value node_of_all)
    (group_below at nibble n pairs rest c.loop-nibble.invariant.rest c.group_len-count.ensures.group c.group_len-count.ensures.next) in
    let left : take (length rest - n) (drop n rest) ≡ drop n rest = take_rest rest n in
    record {
      children =
          first_children-push nibble ss c.in_ok-child_of.field-0 c.loop-nibble.children.items c.push.new.self.items c.loop-nibble-test.true
          c.loop-nibble.invariant.children child c.in_ok-push.ensures.items;
      rest =
          subst (λ (r : List Pair). Remains at (nibble + 1) pairs r) (sym left)
          (remains_further at nibble n pairs rest c.loop-nibble.invariant.rest c.group_len-count.ensures.group c.group_len-count.ensures.next);
      short = subst (λ (r : List Pair). length r ≤ length pairs) (sym left) (omega (arith, length-drop n rest, c.loop-nibble.invariant.short));
    }

pub children_of-returns : goal.children_of-returns
children_of-returns t c =
    let ss = suffixes_from c.args.at c.args.pairs.now in
    let all : c.loop-nibble.nibble ≡ 16 = omega arith in
    c.loop-nibble.invariant.children ∙ ap (λ (n : ℕ). first_children n ss) all ∙ first_children-all ss

pub spell_group-overflow_add-end : goal.spell_group-overflow_add-end
spell_group-overflow_add-end t c =
    let group : IsGroup (c.args.at + c.shared_of_ends.result) c.args.pairs.now =
    further c.args.at c.shared_of_ends.result c.args.pairs.now c.shared_of_ends.ensures c.requires.group in
    omega (arith, end_of_longest (c.args.at + c.shared_of_ends.result) c.args.pairs.now c.requires.some group)

pub spell_group-going_on-requires-clause-group : goal.spell_group-going_on-requires-clause-group
spell_group-going_on-requires-clause-group t c =
    further c.args.at c.shared_of_ends.result c.args.pairs.now c.shared_of_ends.ensures c.requires.group

pub spell_group-children_of-requires : goal.spell_group-children_of-requires
spell_group-children_of-requires t c =
    let group : IsGroup (c.args.at + c.shared_of_ends.result) c.args.pairs.now =
    further c.args.at c.shared_of_ends.result c.args.pairs.now c.shared_of_ends.ensures c.requires.group in
    (search rules, (end_of_longest (c.args.at + c.shared_of_ends.result) c.args.pairs.now c.requires.some group, c.going_on.ensures.on))

pub spell_group-spell_node-requires-clause-end : goal.spell_group-spell_node-requires-clause-end
spell_group-spell_node-requires-clause-end t c =
    let group : IsGroup (c.args.at + c.shared_of_ends.result) c.args.pairs.now =
    further c.args.at c.shared_of_ends.result c.args.pairs.now c.shared_of_ends.ensures c.requires.group in
    end_of_key (c.args.at + c.shared_of_ends.result) c.args.pairs.now c.index-pairs-0.result c.requires.some c.index-pairs-0.is group

pub spell_group-spell_node-requires-clause-sixteen : goal.spell_group-spell_node-requires-clause-sixteen
spell_group-spell_node-requires-clause-sixteen t c = ap length (c.as_slice.ensures.value ∙ c.in_ok-children.ensures) ∙ sixteen_children _

pub spell_group-spell_node-requires-clause-short : goal.spell_group-spell_node-requires-clause-short
spell_group-spell_node-requires-clause-short t c =
    All-same (λ (o : Option (List ℕ)). IfSome o HasCompactLength) _ _ (c.as_slice.ensures.value ∙ c.in_ok-children.ensures) (short_children _)

pub spell_group-returns : goal.spell_group-returns
spell_group-returns t c =
    let at = c.args.at in
    let pairs = c.args.pairs.now in
    let first = c.index-pairs-0.result in
    let end : at + c.shared_of_ends.result ≡ end_of at pairs = ap (λ (n : ℕ). at + n) c.shared_of_ends.ensures in
    let same : node_between first at (at + c.shared_of_ends.result) c.as_slice.result.now ≡ node_of_all (suffixes_from at pairs) =
    ap (node_between first at (at + c.shared_of_ends.result)) (c.as_slice.ensures.value ∙ c.in_ok-children.ensures ∙ c.going_on.ensures.same)
    ∙ ap (λ (e : ℕ). node_between first at e (children_over (suffixes_from e pairs))) end
    ∙ sym (node_of_pairs at pairs first c.requires.some c.index-pairs-0.is c.requires.group) in
    IfOk-weaker c.spell_node.result _ _ (λ b h. h ∙ ap spelling same) c.spell_node.ensures
