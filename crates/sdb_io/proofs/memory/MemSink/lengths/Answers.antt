use Rattle.std.proofs.Common.{◌∙◌, sym}
use Rattle.sdb_io.proofs.Pieces.{lengths_are}
use Rattle.sdb_io.proofs.memory.MemSink.lengths.Goals as goal

pub returns : goal.returns
returns c = c.as_slice.ensures.value ∙ sym (lengths_are c.args.self.now.bytes.items c.args.self.now.lengths.items c.args.self.now.whole)
