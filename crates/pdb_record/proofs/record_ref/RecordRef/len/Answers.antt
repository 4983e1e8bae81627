use Rattle.std.proofs.Common.{length, ap, arith}
use Rattle.pdb_record.proofs.Lengths.{record_len}
use Rattle.pdb_record.proofs.record_ref.RecordRef.len.Goals as goal

pub returns : goal.returns
returns c x shows = omega (arith, record_len x, ap length shows.body)
