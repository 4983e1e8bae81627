use Rattle.trie_change.proofs.expand.put_after_run.Goals as goal

pub returns-clause-apart : goal.returns-clause-apart
returns-clause-apart c = λ settings apart all. c.put_child.ensures.apart settings (c.in_ok-put_run.ensures.apart settings apart all)
