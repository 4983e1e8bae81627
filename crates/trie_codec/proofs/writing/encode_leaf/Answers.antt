use Rattle.std.proofs.Common.{◌≡◌, ℕ, List, [], ◌++◌, length, drop, append_assoc, refl, ap, ◌∙◌}
use Rattle.sdb_base.specs.Nibbles.{nibbles_of}
use Rattle.sdb_scale.specs.Compact.{string}
use Rattle.trie_model.specs.Nibbles.{packed}
use Rattle.trie_model.specs.Node.{header, spelling}
use Rattle.trie_codec.specs.Parts.{leaf_with}
use Rattle.trie_codec.proofs.KeyBytes.{length_from}
use Rattle.trie_codec.proofs.writing.encode_leaf.Goals as goal

in_steps : (partial value : List ℕ) (n : ℕ) (first second third fourth : List ℕ) → length partial ≡ n → first ≡ [] → second ≡ first ++ header 1 n
    → third ≡ second ++ packed partial → fourth ≡ third ++ string value → fourth ≡ spelling (leaf_with partial value)
unfolding spelling
in_steps partial value n first second third fourth count none headed keyed valued =
    valued ∙ ap (λ (l : List ℕ). l ++ string value) (keyed ∙ ap (λ (l : List ℕ). l ++ packed partial) (headed ∙ ap (λ (l : List ℕ). l ++ header 1 n) none))
    ∙ append_assoc (header 1 n) (packed partial) (string value) ∙ rw count refl

pub returns : goal.returns
returns c =
    let partial : List ℕ = drop c.args.from (nibbles_of c.args.key.now) in
    c.from_vec.ensures ∙ in_steps partial c.args.value.now _ _ _ _ _ (length_from c.args.key.now c.args.from) c.in_ok-out.ensures.items
    c.in_ok-put_header.ensures c.in_ok-put_key.ensures c.in_ok-put_string.ensures
