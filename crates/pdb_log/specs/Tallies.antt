-- What is counted towards an end: records, moves of the gate, and the bytes of a log file.
use Rattle.std.specs.Prelude.{◌≡◌, ◌≤◌, ◌+◌, ℕ}
use Rattle.pdb_log.specs.Standing.{end_of_log}
use Rattle.pdb_log.specs.declared.log.Log.{Log}

-- the number of the last record, and what a gate's sequence and the bytes of the current log file don't pass
pub record Tally : Type 0 where
  pub records : ℕ
  pub gates : ℕ
  pub bytes : ℕ

-- nothing was counted
abbrev pub no_tally : Tally
no_tally = record { records = 0; gates = 0; bytes = 0 }

-- a record of so many bytes was appended
abbrev pub with_bytes : Tally → ℕ → Tally
with_bytes t len = record { records = t.records + 1; gates = t.gates; bytes = t.bytes + len }

-- the gate was moved
abbrev pub with_gate : Tally → Tally
with_gate t = record { records = t.records; gates = t.gates + 1; bytes = t.bytes }

-- the log has come so far
pub record IsTally {D : Type 0} (log : Log D) (t : Tally) : Type 0 where
  pub records : log.number ≡ t.records
  pub gates : log.gate.sequence ≤ t.gates
  pub bytes : end_of_log log ≤ t.bytes
