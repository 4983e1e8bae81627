-- One step of the scan of a log file.
use Rattle.std.specs.Prelude.{◌≡◌, ◌≤◌, ◌<◌, ℕ, List, Option, Some, None}
use Rattle.pdb_disk.specs.Files.{FileBytes}
use Rattle.pdb_model.specs.Logs.{IsScanned}
use Rattle.pdb_model.specs.Records.{Record, record_bytes}
use Rattle.pdb_recover.specs.Scanning.{HasScanned}
use Rattle.pdb_recover.specs.declared.cursor.Cursor.{Cursor}

-- the scan came to the record of this number, and goes on after it; or to nothing more
abbrev pub Steps : FileBytes → Cursor → ℕ → ℕ → Option (List ℕ) → Type 0
Steps c next n number None = HasScanned c next n × (next.head ≡ None)
Steps c next n number (Some b) =
    ((r : Record) × IsScanned c r × (r.number ≡ number) × (b ≡ record_bytes r))
    × ((m : ℕ) → n ≤ m → number < m → HasScanned c next m)
