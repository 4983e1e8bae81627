use Rattle.std.proofs.Common.{◌≤◌, ◌-◌, length}
use Rattle.sdb_host.proofs.files.write_bytes.Given as goal

-- the bytes so far lie within what is to be written
abbrev pub invariant-loop-written : goal.invariant-loop-written
invariant-loop-written l = l.written ≤ length l.bytes

abbrev pub decreases-loop-written : goal.decreases-loop-written
decreases-loop-written l = length l.bytes - l.written
