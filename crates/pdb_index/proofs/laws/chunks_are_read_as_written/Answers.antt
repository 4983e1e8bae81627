use Rattle.pdb_index.proofs.Spellings.{same_chunk}
use Rattle.pdb_index.proofs.laws.chunks_are_read_as_written.Goals as goal

pub returns : goal.returns
returns c = same_chunk
