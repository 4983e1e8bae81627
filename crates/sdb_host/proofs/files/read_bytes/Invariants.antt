use Rattle.std.proofs.Common.{◌≡◌, ◌≤◌, ◌-◌, length}
use Rattle.sdb_host.proofs.files.read_bytes.Given as goal

-- the bytes so far lie within what is to be filled
abbrev pub invariant-loop-filled : goal.invariant-loop-filled
invariant-loop-filled l = record {
  within : l.filled ≤ length l.into;
  length : length l.into ≡ length l.fn.into;
}

abbrev pub decreases-loop-filled : goal.decreases-loop-filled
decreases-loop-filled l = length l.into - l.filled
