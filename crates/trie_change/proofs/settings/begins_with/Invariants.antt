use Rattle.std.proofs.Common.{◌≡◌, drop}
use Rattle.std.specs.Prelude.{nat_eq}
use Rattle.std.specs.List.{starts_with}
use Rattle.trie_change.proofs.settings.begins_with.Given as goal

-- what is left decides
abbrev pub invariant-loop-i : goal.invariant-loop-i
invariant-loop-i l = starts_with nat_eq (drop l.i l.key) (drop l.i l.path) ≡ starts_with nat_eq l.key l.path
