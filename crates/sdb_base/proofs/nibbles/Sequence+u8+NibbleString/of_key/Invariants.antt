use Rattle.std.proofs.Common.{◌≡◌, take}
use Rattle.sdb_base.specs.Nibbles.{nibbles_of}
use Rattle.sdb_base.proofs.nibbles.Sequence+u8+NibbleString.of_key.Given as goal

-- the nibbles of the bytes so far
abbrev pub invariant-loop-byte : goal.invariant-loop-byte
invariant-loop-byte l = l.items.items ≡ nibbles_of (take l.byte-index l.key)
