use Rattle.std.proofs.Common.{◌≡◌, ◌+◌, ◌^◌, ◌<◌, ◌≤◌, ℕ, suc, zero, List, ◌∷◌, Option, Some, None, All, length, get_or, subst, ap, sym, ◌∙◌, arith}
use Rattle.std.specs.Prelude.{IfSome}
use Rattle.trie_model.specs.Node.{HasCompactLength}
use Rattle.trie_tests.proofs.codec.from_last.Goals as goal
use Rattle.trie_tests.proofs.codec.from_last.Goals.{in-None, in-Some}

one_more : (c : Option (List ℕ)) (cs : List (Option (List ℕ))) → IfSome c HasCompactLength → All (λ child. IfSome child HasCompactLength) cs
    → All (λ child. IfSome child HasCompactLength) (c ∷ cs)
one_more c cs h hs zero d lt = h
one_more c cs h hs (suc k) d lt = hs k d (omega (arith, lt))

short_part : (bytes : List ℕ) → length bytes ≤ 32 → HasCompactLength bytes
short_part bytes short = omega (arith, short)

pub loop-count-preserved : goal.loop-count-preserved
loop-count-preserved c =
    let found = c.loop-count.found in
    elim c.match-find.branch [
      | in-None w ↦
          let more = w.found-is ∙ w.put_none.ensures in
          record {
            so_many = ap length more ∙ omega (arith, c.loop-count.invariant.so_many);
            short = subst (λ cs. All (λ child. IfSome child HasCompactLength) cs) (sym more) (one_more None found tt c.loop-count.invariant.short);
          }
      | in-Some w ↦
          let more = w.found-is ∙ w.put-in-Some.ensures in
          record {
            so_many = ap length more ∙ omega (arith, c.loop-count.invariant.so_many);
            short = subst (λ cs. All (λ child. IfSome child HasCompactLength) cs) (sym more)
                (one_more (Some _) found (short_part _ w.if-child-le32.true) c.loop-count.invariant.short);
          }
    ]
