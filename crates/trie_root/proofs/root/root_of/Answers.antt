use Rattle.std.proofs.Common.{◌≡◌, List, refl, sym, ap, subst, ◌∙◌}
use Rattle.sdb_base.specs.declared.Pair.{Pair}
use Rattle.sdb_blake2.specs.Blake2b.{H}
use Rattle.trie_model.specs.Node.{spelling}
use Rattle.trie_model.specs.Trie.{node_of_all, trie_root}
use Rattle.trie_root.specs.inner.Groups.{IsGroup, suffixes_from}
use Rattle.trie_root.proofs.Entries.{root_of_pairs, group_of_keys}
use Rattle.trie_root.proofs.root.root_of.Goals as goal
use Rattle.trie_root.proofs.root.root_of.Goals.{then-is_empty+in_ok-spelled, else-is_empty+in_ok-spelled-2}

pub spell_group-requires-clause-group : goal.spell_group-requires-clause-group
spell_group-requires-clause-group c =
    subst (λ (ps : List Pair). IsGroup 0 ps) (sym c.as_slice.ensures) (group_of_keys c.args.pairs.now c.requires.rise c.requires.within)

pub returns : goal.returns
unfolding trie_root
returns c =
    let ps = c.args.pairs.now in
    let spelled : c.if-is_empty.spelled ≡ spelling (node_of_all (suffixes_from 0 ps)) =
    elim c.if-is_empty.branch [
      | then-is_empty+in_ok-spelled w ↦ w.spelled-is ∙ w.in_ok-spelled.ensures ∙ ap (λ (qs : List Pair). spelling (node_of_all (suffixes_from 0 qs))) (sym (w.if-is_empty.ensures.0 refl))
      | else-is_empty+in_ok-spelled-2 w ↦ w.spelled-is ∙ w.in_ok-spelled-2.ensures ∙ ap (λ (qs : List Pair). spelling (node_of_all (suffixes_from 0 qs))) w.as_slice.ensures
    ] in
    c.hash256-hash.ensures ∙ ap H (c.as_slice-2.ensures ∙ spelled) ∙ ap (λ n. H (spelling n)) (sym (root_of_pairs ps c.requires.rise))
