use Rattle.std.proofs.Common.{◌≡◌, ℕ, ◌+◌, ◌-◌, ◌<◌, ◌≤◌, List, [], ◌∷◌, ◌++◌, get_or, length, take, drop, sym, ap, ◌∙◌, arith, length-drop}
use Rattle.std.proofs.lemmas.List.{get_or-drop, take_more}
use Rattle.std.proofs.lemmas.List.Elements.{All-push}
use Rattle.sdb_base.specs.Nibbles.{nibbles_of}
use Rattle.trie_root.proofs.Nibble.{length-nibbles_of}
use Rattle.trie_root.proofs.root.nibbles_between.Goals as goal

one_more : (ns : List ℕ) (from i x : ℕ) → from ≤ i → i < length ns → x ≡ get_or ns i 0
    → take (i - from) (drop from ns) ++ x ∷ [] ≡ take (i + 1 - from) (drop from ns)
one_more ns from i x h k e =
    let n = i - from in
    let at : get_or (drop from ns) n 0 ≡ x =
    get_or-drop from ns n 0 ∙ ap (λ (j : ℕ). get_or ns j 0) (omega arith) ∙ sym e in
    let next : take (n + 1) (drop from ns) ≡ take n (drop from ns) ++ get_or (drop from ns) n 0 ∷ [] =
    take_more (drop from ns) n 0 (omega (arith, length-drop from ns)) in
    let count : i + 1 - from ≡ n + 1 = omega arith in
    rw (count, next, at)

pub loop-i-preserved : goal.loop-i-preserved
loop-i-preserved c =
    let ns = nibbles_of c.args.key.now in
    let more = one_more ns c.args.from c.loop-i.i c.nibble_at.result (omega arith) (omega (arith, length-nibbles_of c.args.key.now)) c.nibble_at.ensures.value in
    let pushed = c.in_ok-push.ensures.items in
    record {
      value = pushed ∙ ap (λ (t : List ℕ). t ++ c.nibble_at.result ∷ []) c.loop-i.invariant.value ∙ more;
      below = rw pushed (All-push (λ n. n < 16) c.loop-i.nibbles.items c.nibble_at.result c.loop-i.invariant.below c.nibble_at.ensures.below);
    }
