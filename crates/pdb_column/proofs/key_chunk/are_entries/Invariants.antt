use Rattle.std.proofs.Common.{All, take}
use Rattle.pdb_column.specs.inner.KeyChunks.{HaveTiers, IsEntryOf}
use Rattle.pdb_column.proofs.key_chunk.are_entries.Given as goal

abbrev pub invariant-loop-entry : goal.invariant-loop-entry
invariant-loop-entry l = All (IsEntryOf l.head) (take l.entry-index l.entries) × HaveTiers (take l.entry-index l.entries)
