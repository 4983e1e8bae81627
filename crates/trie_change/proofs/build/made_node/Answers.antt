use Rattle.std.proofs.Common.{◌≤◌, List, ℕ, length, subst, sym, ap, arith}
use Rattle.std.specs.Prelude.{IfSome}
use Rattle.std.proofs.lemmas.List.Elements.{recursion_from_All}
use Rattle.trie_change.specs.inner.Built.{IsShortValue}
use Rattle.trie_change.specs.inner.Diffs.{most_in_node}
use Rattle.trie_change.proofs.SpellingLength.{short_part, short_spelling}
use Rattle.trie_change.proofs.build.made_node.Goals as goal

pub returns-clause-fits : goal.returns-clause-fits
returns-clause-fits c =
    let children = c.args.children.now in
    let path : length c.path_of.result.now ≤ 2048 = omega (arith, ap length c.path_of.ensures, c.requires.limited.short) in
    subst (λ (x : List ℕ). length x ≤ most_in_node) (sym c.in_ok-bytes.ensures)
    (short_spelling _ (short_part _ _ c.path_of.result.now path)
    (rw c.value_here.ensures c.requires.value)
    c.requires.sixteen (recursion_from_All (λ o. IfSome o IsShortValue) children c.requires.short))
