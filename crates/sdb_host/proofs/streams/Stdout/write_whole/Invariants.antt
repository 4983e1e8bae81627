use Rattle.std.proofs.Common.{◌≡◌, ◌++◌, ℕ, List, Some, drop, length, take}
use Rattle.sdb_host.proofs.streams.Stdout.write_whole.Given as goal

-- no fault is counted here, and what isn't left was written
abbrev pub invariant-loop-rest : goal.invariant-loop-rest
invariant-loop-rest g l = record {
  counts : l.self.faults ≡ l.fn.self.faults;
  written : (before : List ℕ) → g.W.Write.contents l.fn.self.writer ≡ Some before
      → (n : ℕ) × (g.W.Write.contents l.self.writer ≡ Some (before ++ take n l.fn.bytes)) × (l.rest ≡ drop n l.fn.bytes);
}

abbrev pub decreases-loop-rest : goal.decreases-loop-rest
decreases-loop-rest g l = length l.rest
