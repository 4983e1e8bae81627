use Rattle.std.proofs.Common.{◌≡◌, ℕ, true, false, eqb, List, [], ◌∷◌, length, refl, ap, subst, sym, ◌∙◌, arith, eq-eqb, inl, inr}
use Rattle.std.specs.Vec.{vec_len}
use Rattle.std.proofs.lemmas.Bool.Decides.{eqb_tells}
use Rattle.trie_change.specs.declared.frontier.Fed.{Fed}
use Rattle.trie_change.specs.inner.Diffs.{AreShort}
use Rattle.trie_change.proofs.PassedNodes.{dropped_one, none_left}
use Rattle.trie_change.proofs.diff.Diff.ended.Goals as goal

some : (fs : List Fed) (n : ℕ) → n ≡ length fs → false ≡ eqb n 0 → fs ≡ [] → ⊥
some fs n h e nothing = let both : false ≡ true = e ∙ eq-eqb n 0 (omega (arith, ap length nothing)) in cc

none : (fs : List Fed) (n : ℕ) → n ≡ length fs → true ≡ eqb n 0 → fs ≡ []
none [] n h e = refl
none (f ∷ fs) n h e = elim (eqb_tells n 0) [ inl t ↦ absurd (omega (arith, t.1)) | inr f ↦ let both : true ≡ false = e ∙ f.0 in absurd cc ]

pub loop-diff-preserved : goal.loop-diff-preserved
loop-diff-preserved c = record {
  short = subst (λ v. AreShort v.items) (sym c.in_ok-drop_last.ensures.puts) c.loop-diff.invariant.short;
  dropping = λ k is.
      dropped_one k c.loop-diff.diff c.drop_last.new.self
      (some c.loop-diff.diff.fed.items (vec_len c.loop-diff.diff.fed) (omega (arith, c.loop-diff.diff.fed.ok.0)) c.loop-diff-test.ensures)
      c.in_ok-drop_last.ensures.puts c.in_ok-drop_last.ensures.dropped (c.loop-diff.invariant.dropping k is);
}

pub returns-clause-finished : goal.returns-clause-finished
returns-clause-finished c = λ k is.
    let nothing : c.loop-diff.diff.fed.items ≡ [] =
    none c.loop-diff.diff.fed.items (vec_len c.loop-diff.diff.fed) (omega (arith, c.loop-diff.diff.fed.ok.0)) c.loop-diff-test.ensures in
    let both = none_left k c.loop-diff.diff nothing (c.loop-diff.invariant.dropping k is) in
    (c.reverse.ensures.items ∙ both.0, c.reverse-2.ensures.items ∙ both.1)
