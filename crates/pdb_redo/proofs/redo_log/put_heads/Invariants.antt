use Rattle.std.proofs.Common.{◌≡◌, drop}
use Rattle.pdb_redo.specs.inner.Carrying.{heads_laid}
use Rattle.pdb_redo.proofs.redo_log.put_heads.Given as goal

abbrev pub invariant-loop-put : goal.invariant-loop-put
invariant-loop-put l = heads_laid l.heads (drop l.put-index l.puts) ≡ heads_laid l.fn.heads l.puts
