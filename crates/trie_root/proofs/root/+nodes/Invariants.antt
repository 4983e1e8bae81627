use Rattle.std.proofs.Common.{◌≡◌, ◌≤◌, ◌+◌, ◌-◌, ◌*◌, length}
use Rattle.trie_root.specs.inner.Groups.{suffixes_from}
use Rattle.trie_root.proofs.Remains.{Remains, first_children}
use Rattle.trie_root.proofs.root.+nodes.Given as goal

abbrev pub decreases-child_of : goal.decreases-child_of
decreases-child_of l = 3 * (2049 - l.at)

abbrev pub decreases-children_of : goal.decreases-children_of
decreases-children_of l = 3 * (2049 - l.at) + 1

abbrev pub decreases-spell_group : goal.decreases-spell_group
decreases-spell_group l = 3 * (2049 - l.at) + 2

-- the children so far, and what is left
abbrev pub invariant-children_of-loop-nibble : goal.invariant-children_of-loop-nibble
invariant-children_of-loop-nibble l = record {
  children : l.children.items ≡ first_children l.nibble (suffixes_from l.at l.pairs);
  rest : Remains l.at l.nibble l.pairs l.rest;
  short : length l.rest ≤ length l.pairs;
}
