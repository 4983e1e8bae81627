use Rattle.std.proofs.Common.{◌≡◌, List, ℕ, length, drop, sym, ap, ◌∙◌}
use Rattle.sdb_base.specs.Nibbles.{nibbles_of}
use Rattle.sdb_base.specs.declared.Pair.{Pair}
use Rattle.trie_model.specs.Trie.{common}
use Rattle.trie_root.proofs.Last.{shared_of_pairs}
use Rattle.trie_root.proofs.root.shared_of_ends.Goals as goal

pub returns : goal.returns
returns c =
    let at = c.args.at in
    let shared = shared_of_pairs at c.args.pairs.now c.index-pairs-0.result c.index-pairs-pairs.result c.requires.some c.index-pairs-0.is c.index-pairs-pairs.is c.requires.group in
    let rest : List ℕ → List ℕ = λ k. drop at (nibbles_of k) in
    let last : c.as_slice-last.result.now ≡ c.index-pairs-pairs.result.key =
    c.as_slice-last.ensures ∙ ap (λ (x : Pair). x.key) (sym c.index-pairs-pairs.is) in
    let first : c.as_slice-first.result.now ≡ c.index-pairs-0.result.key =
    c.as_slice-first.ensures ∙ ap (λ (x : Pair). x.key) (sym c.index-pairs-0.is) in
    c.shared_len.ensures
    ∙ ap (λ (k : List ℕ). length (common (rest k) (rest c.as_slice-last.result.now))) first
    ∙ ap (λ (k : List ℕ). length (common (rest c.index-pairs-0.result.key) (rest k))) last
    ∙ ap length (sym shared)
