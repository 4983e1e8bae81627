use Rattle.std.proofs.Common.{◌≡◌, ◌*◌, length, take}
use Rattle.sdb_blake2.specs.Blake2b.{state_bytes}
use Rattle.sdb_blake2.proofs.hasher.state_bytes.Given as goal

abbrev pub invariant-words : goal.invariant-words
invariant-words l = (length l.bytes ≡ 64) × (take (8 * l.i) l.bytes ≡ state_bytes l.state l.i)
