use Rattle.std.proofs.Common.{length, refl, ap, subst, sym}
use Rattle.std.proofs.lemmas.Result.{IfOk-weaker}
use Rattle.trie_change.specs.inner.Diffs.{AreShort, IsComparison}
use Rattle.trie_change.proofs.PassedNodes.{all_passed, passed_one}
use Rattle.trie_change.proofs.diff.Diff.emit.Goals as goal

pub loop-self-preserved : goal.loop-self-preserved
loop-self-preserved c = record {
  short = subst (λ v. AreShort v.items) (sym c.in_ok-drop_last.ensures.puts) c.loop-self.invariant.short;
  passing = λ k is.
      passed_one c.args.path.now k c.loop-self.self c.drop_last.new.self c.loop-self-test.ensures.above (λ e. c.loop-self-test.ensures.some refl (ap length e))
      c.in_ok-drop_last.ensures.puts c.in_ok-drop_last.ensures.dropped (c.loop-self.invariant.passing k is);
}

pub returns-clause-emitted : goal.returns-clause-emitted
returns-clause-emitted c = λ k n path bytes is.
    let p = c.loop-self.invariant.passing k is in
    IfOk-weaker c.settle.result _ _
    (λ h r. (r.0, subst (IsComparison c.settle.new.self) (all_passed c.args.path.now n k c.loop-self.self c.loop-self-test.ensures.above path p) r.1))
    (c.settle.ensures.settled p.0 n path bytes p.1)
