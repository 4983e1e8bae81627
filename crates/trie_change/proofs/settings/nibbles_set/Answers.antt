use Rattle.std.proofs.Common.{length, slice_index_or, false, ap, sym, ◌∙◌}
use Rattle.std.specs.Prelude.{◌||◌}
use Rattle.std.proofs.lemmas.List.{length-set}
use Rattle.trie_change.proofs.NextNibbles.{ends_before, goes_on_by, is_no_nibble, noted, or_false}
use Rattle.trie_change.proofs.NibblesSet.{all_passed, one_passed, stopped}
use Rattle.trie_change.proofs.settings.nibbles_set.Goals as goal
use Rattle.trie_change.proofs.settings.nibbles_set.Goals.{in-Some+then-nibble-lt16, in-Some+else-nibble-lt16, in_default}

pub returns-then-not-begins_with : goal.returns-then-not-begins_with
returns-then-not-begins_with c = λ n rising few.
    let xs = c.args.settings.now in
    let end = c.args.end.now in
    c.loop-setting.invariant.noted n few
    ∙ stopped xs c.first_from-first.result c.loop-setting.setting-index n c.setting-item.result end c.as_slice-path.result.now rising c.first_from-first.ensures.bound (c.first_from-first.ensures.below rising) (c.first_from-first.ensures.others rising)
    c.loop-setting-test.true c.setting-item.is c.as_slice-path.ensures (sym c.begins_with.ensures ∙ c.if-not-begins_with.true)

pub loop-setting-preserved : goal.loop-setting-preserved
loop-setting-preserved c = record {
  len = elim c.match-get.branch [
    | in-Some+then-nibble-lt16 w ↦ ap length w.set-is ∙ length-set c.loop-setting.set w.in-Some.nibble.now _ ∙ c.loop-setting.invariant.len
    | in-Some+else-nibble-lt16 w ↦ ap length w.set-is ∙ c.loop-setting.invariant.len
    | in_default w ↦ ap length w.set-is ∙ c.loop-setting.invariant.len
  ];
  noted = λ n few.
      let path = c.as_slice-path.result.now in
      let end = c.args.end.now in
      let old = slice_index_or c.loop-setting.set n false in
      one_passed c.args.settings.now c.first_from-first.result c.loop-setting.setting-index n c.setting-item.result end path old _ c.loop-setting-test.true c.setting-item.is
      c.as_slice-path.ensures (c.loop-setting.invariant.noted n few)
      (elim c.match-get.branch [
        | in-Some+then-nibble-lt16 w ↦
            ap (λ set. slice_index_or set n false) w.set-is ∙ noted c.loop-setting.set w.in-Some.nibble.now n c.loop-setting.invariant.len w.if-nibble-lt16.true
            ∙ ap (λ b. old || b) (sym (goes_on_by path end n w.in-Some.nibble.now w.in-Some.ensures.lookup.3.0 (sym c.begins_with.ensures ∙ c.if-not-begins_with.false) (w.in-Some.ensures.lookup.3.1 0)))
        | in-Some+else-nibble-lt16 w ↦
            ap (λ set. slice_index_or set n false) w.set-is ∙ sym (or_false old)
            ∙ ap (λ b. old || b)
            (sym (goes_on_by path end n w.in-Some.nibble.now w.in-Some.ensures.lookup.3.0 (sym c.begins_with.ensures ∙ c.if-not-begins_with.false) (w.in-Some.ensures.lookup.3.1 0)
            ∙ is_no_nibble n w.in-Some.nibble.now few w.if-nibble-lt16.false))
        | in_default w ↦
            ap (λ set. slice_index_or set n false) w.set-is ∙ sym (or_false old) ∙ ap (λ b. old || b) (sym (ends_before path end n w.in_default.ensures.lookup.3))
      ]);
}

pub returns : goal.returns
returns c = λ n rising few.
    let xs = c.args.settings.now in
    let end = c.args.end.now in
    c.loop-setting.invariant.noted n few
    ∙ all_passed xs c.first_from-first.result c.loop-setting.setting-index n end c.first_from-first.ensures.bound (c.first_from-first.ensures.below rising) c.loop-setting-test.false
