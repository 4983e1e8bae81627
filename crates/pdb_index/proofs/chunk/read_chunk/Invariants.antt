use Rattle.std.proofs.Common.{◌≡◌, ◌*◌, ◌<◌, ◌^◌, All, take}
use Rattle.arrayvec.specs.ArrayVec.{array_vec_len}
use Rattle.pdb_model.specs.Chunks.{chunk_bytes}
use Rattle.pdb_index.proofs.chunk.read_chunk.Given as goal

-- the entries so far are those of the bytes so far
abbrev pub invariant-loop-i : goal.invariant-loop-i
invariant-loop-i l = record {
  places : array_vec_len l.chunk ≡ l.i;
  narrow : All (λ e. e < 2 ^ 64) l.chunk.items;
  spelled : chunk_bytes l.chunk.items ≡ take (8 * l.i) l.bytes;
}
