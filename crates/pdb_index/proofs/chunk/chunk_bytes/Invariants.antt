use Rattle.std.proofs.Common.{◌≡◌, ◌*◌, length, take}
use Rattle.pdb_model.specs.Chunks.{chunk_bytes}
use Rattle.pdb_index.proofs.chunk.chunk_bytes.Given as goal

-- the bytes so far are those of the entries so far
abbrev pub invariant-loop-i : goal.invariant-loop-i
invariant-loop-i l = (length l.bytes ≡ 512) × (take (8 * l.i) l.bytes ≡ chunk_bytes (take l.i l.c.items))
