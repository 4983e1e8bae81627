use Rattle.trie_read.proofs.descent.+walk.Given as goal

abbrev pub decreases-walk : goal.decreases-walk
decreases-walk l = l.levels
