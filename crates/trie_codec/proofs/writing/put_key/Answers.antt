use Rattle.std.proofs.Common.{◌≡◌, ◌∷◌, [], ◌++◌, ◌+◌, ◌%◌, ◌/◌, ℕ, List, Result, Ok, Err, cond, append_assoc, get_or, drop, arith, ap, ◌∙◌}
use Rattle.std.specs.Prelude.{OnOk, is_ok}
use Rattle.std.proofs.lemmas.List.{take_rest}
use Rattle.std.proofs.lemmas.Result.{on_ok_weaker}
use Rattle.trie_codec.proofs.KeyBytes.{packed_from_high, packed_from_low}
use Rattle.trie_codec.proofs.writing.put_key.Goals as goal

appended : {T E : Type 0} (r : Result T E) (new old a b : List ℕ) → new ≡ cond (is_ok r) (old ++ a) old → a ≡ b → OnOk r (new ≡ old ++ b)
appended (Ok x) new old a b h e = h ∙ ap (λ (l : List ℕ). old ++ l) e
appended (Err f) new old a b h e = tt

pub returns-then-from-eq0 : goal.returns-then-from-eq0
returns-then-from-eq0 c =
    rw (packed_from_high c.args.key.now c.args.from c.if-from-eq0.true)
    (appended c.extend_from_slice.result _ c.args.out.now.items _ _ c.extend_from_slice.ensures.items (take_rest c.args.key.now (c.args.from / 2)))

pub returns : goal.returns
returns c =
    let low : ℕ = get_or c.args.key.now (c.args.from / 2) 0 % 16 in
    let rest : List ℕ = drop (c.args.from / 2 + 1) c.args.key.now in
    rw (packed_from_low c.args.key.now c.args.from (omega arith) c.requires)
    (on_ok_weaker c.extend_from_slice-2.result
    (λ e. e ∙ ap (λ (l : List ℕ). l ++ rest) c.in_ok-push.ensures.items ∙ append_assoc c.args.out.now.items (low ∷ []) rest)
    (appended c.extend_from_slice-2.result _ c.push.new.self.items _ _ c.extend_from_slice-2.ensures.items (take_rest c.args.key.now (c.args.from / 2 + 1))))
