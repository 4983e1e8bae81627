use Rattle.trie_read.proofs.Children.{child_hangs, child_of, child_stored, value_of}
use Rattle.trie_read.proofs.laws.children_are_the_nodes_below.Goals as goal

pub returns : goal.returns
returns c = record { value = value_of; child = child_of; hangs = child_hangs; stored = child_stored }
