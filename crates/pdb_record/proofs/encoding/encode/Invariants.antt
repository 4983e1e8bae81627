use Rattle.std.proofs.Common.{◌≡◌, ◌++◌, take}
use Rattle.pdb_model.specs.Records.{body_bytes}
use Rattle.pdb_record.proofs.encoding.encode.Given as goal

abbrev pub invariant-loop-put : goal.invariant-loop-put
invariant-loop-put l = l.bytes.items ≡ l.initial.bytes.items ++ body_bytes (take l.put-index l.put-items)
