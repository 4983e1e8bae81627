use Rattle.std.proofs.Common.{◌≡◌, ℕ, List, ◌++◌, ◌+◌, ◌*◌, ◌<◌, length, take}
use Rattle.sdb_blake2.specs.Hasher.{Holds, digest_len_of}
use Rattle.sdb_blake2.proofs.Blocks.{Whole}
use Rattle.sdb_blake2.proofs.hasher.Blake2b.update.Given as goal

abbrev pub invariant-blocks-2 : goal.invariant-blocks-2
invariant-blocks-2 l = record {
  counted : l.self.taken ≡ l.fn.self.taken + (l.start + 128 * l.i);
  fits : l.start + 128 * l.i < length l.bytes;
  digest_len : digest_len_of l.self ≡ digest_len_of l.fn.self;
  absorbed : (m : List ℕ) → Holds l.fn.self m
      → Whole (digest_len_of l.fn.self) l.self.state l.self.taken (m ++ take (l.start + 128 * l.i) l.bytes);
}
