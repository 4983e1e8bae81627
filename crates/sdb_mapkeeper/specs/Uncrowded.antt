-- How far commits have come where no index is ever without room.
use Rattle.std.specs.Prelude.{ℕ, zero, suc, ◌-◌, List, [], ◌∷◌}
use Rattle.sdb_base.specs.Pipeline.{Pipeline}
use Rattle.sdb_base.specs.declared.numbers.Numbers.{Numbers}

-- so many numbers after the first one, in their order
abbrev pub counted_up : ℕ → ℕ → List ℕ
counted_up a zero = []
counted_up a (suc k) = suc a ∷ counted_up (suc a) k

-- the state of a pipeline in which each commit has a record of its own, and no index grows
abbrev pub uncrowded : Numbers → Pipeline
uncrowded n = record {
  numbers = n;
  waiting = counted_up n.enacted (n.logged - n.enacted);
  ready = n.flushed - n.enacted;
  columns = λ column. record { base = 0; bits = 0; growing = 0; cursor = 0 };
}
