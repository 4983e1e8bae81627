use Rattle.std.proofs.Common.{◌≡◌, take}
use Rattle.sdb_base.proofs.items.Sequence+T+Typed.from_slice.Given as goal

-- the items so far are copied
abbrev pub invariant-loop-item : goal.invariant-loop-item
invariant-loop-item g l = l.copied ≡ take l.item-index l.items
