use Rattle.std.proofs.Common.{◌≡◌, ◌≤◌, ◌^◌, length, take}
use Rattle.pdb_model.specs.Records.{body_bytes}
use Rattle.pdb_redo.proofs.redo_log.is_short.Given as goal

abbrev pub invariant-loop-put : goal.invariant-loop-put
invariant-loop-put l = record {
  so_far : l.len ≡ length (body_bytes (take l.put-index l.puts));
  short : l.len ≤ 2 ^ 62;
}
