-- The record that recovery takes next.
use Rattle.std.specs.Prelude.{◌≡◌, ◌+◌, ℕ, List, Option, Some, None}
use Rattle.pdb_disk.specs.Files.{Image}
use Rattle.pdb_model.specs.Logs.{IsFound}
use Rattle.pdb_model.specs.Records.{Record, record_bytes}
use Rattle.pdb_recover.specs.Scanning.{HaveScanned}
use Rattle.pdb_recover.specs.declared.log_files.LogFiles.{LogFiles}

-- the bytes of the record after this number that counts, and the scans have come past it; or there is none
abbrev pub FindsNext : Image → LogFiles → ℕ → Option (List ℕ) → Type 0
FindsNext x logs number None = (r : Record) → IsFound x r → r.number ≡ number + 1 → ⊥
FindsNext x logs number (Some b) = ((r : Record) × IsFound x r × (r.number ≡ number + 1) × (b ≡ record_bytes r)) × HaveScanned x logs (number + 1 + 1)
