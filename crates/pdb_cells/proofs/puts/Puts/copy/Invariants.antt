use Rattle.std.proofs.Common.{◌≡◌, take}
use Rattle.pdb_cells.proofs.puts.Puts.copy.Given as goal

-- the puts so far are copied
abbrev pub invariant-loop-put : goal.invariant-loop-put
invariant-loop-put l = l.copied ≡ take l.put-index l.self
