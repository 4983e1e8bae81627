-- What a contract sees of a hasher: its digest's length, how many bytes it has taken, and the
-- message that it holds.
use Rattle.std.specs.Prelude.{◌≡◌, ℕ, ◌-◌, ◌*◌, List, length, take, drop}
use Rattle.sdb_blake2.specs.Blake2b.{block_count, state_after}
use Rattle.sdb_blake2.specs.declared.hasher.Blake2b.{Blake2b}

-- the length of the digest in bytes
abbrev pub digest_len_of : Blake2b → ℕ
digest_len_of s = s.digest_len.bytes

-- how many bytes were taken
abbrev pub taken_len : Blake2b → ℕ
taken_len s = s.taken

-- The hasher holds the message m: all blocks but the last were compressed, and the buffer begins
-- with the bytes of the last.
unfoldable pub Holds : Blake2b → List ℕ → Type 0
Holds s m =
    let last = block_count (length m) - 1 in
    (s.taken ≡ length m) × (s.state ≡ state_after (digest_len_of s) m last)
    × (take (length m - 128 * last) s.buffer ≡ drop (128 * last) m)
