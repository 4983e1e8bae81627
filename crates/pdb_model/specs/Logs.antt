-- What recovery finds in the log files and in the gate's file, as a crash may leave them.
use Rattle.std.specs.Prelude.{◌≡◌, ◌<◌, ◌≤◌, ◌+◌, ◌*◌, ◌^◌, ℕ, List, [], ◌∷◌, length}
use Rattle.pdb_disk.specs.Files.{FileBytes, Image, StandsAt}
use Rattle.pdb_model.specs.Gates.{gate_at, gate_bytes, gate_place}
use Rattle.pdb_model.specs.Records.{IsRecord, Record, record_bytes}
use Rattle.pdb_model.specs.declared.gate_slot.GateSlot.{GateSlot}

-- the file of the gates
abbrev pub gate_file : ℕ
gate_file = 0

-- the log files
abbrev pub IsLogFile : ℕ → Type 0
IsLogFile file = (1 ≤ file) × (file ≤ 4)

-- a record ends within so many bytes of a log file
abbrev pub most_in_log : ℕ
most_in_log = 2 ^ 62

-- this record stands in a file from a place on, whole
pub record StandsWhole (c : FileBytes) (at : ℕ) (r : Record) : Type 0 where
  pub is : IsRecord r
  pub there : StandsAt c at (record_bytes r)
  pub within : at + length (record_bytes r) ≤ most_in_log

-- From a place on these records stand one after the other up to an end, the first with this number and each other one with
-- the number after the one before it.
abbrev pub AreInARow : FileBytes → ℕ → ℕ → List Record → ℕ → Type 0
AreInARow c at number [] end = end ≡ at
AreInARow c at number (r ∷ rs) end =
    (r.number ≡ number) × StandsWhole c at r × AreInARow c (at + length (record_bytes r)) (number + 1) rs end

-- A scan of the file comes to this record: it stands at the file's front, or after others that stand there in a row, with the
-- number after theirs.
pub record IsScanned (c : FileBytes) (r : Record) : Type 0 where
  pub number : ℕ
  pub before : List Record
  pub end : ℕ
  pub row : AreInARow c 0 number before end
  pub next : r.number ≡ number + length before
  pub whole : StandsWhole c end r

-- The record of its number that counts: a scan of some log file comes to it, and that of no lower one to a record of this
-- number.
pub record IsFound (x : Image) (r : Record) : Type 0 where
  pub file : ℕ
  pub is_log : IsLogFile file
  pub scanned : IsScanned (x file) r
  pub lowest : (j : ℕ) (s : Record) → IsLogFile j → j < file → IsScanned (x j) s → s.number ≡ r.number → ⊥

-- Recovery takes these records: the one of the number after this, the one after that, and so on while there is one.
abbrev pub AreRecovered : Image → ℕ → List Record → Type 0
AreRecovered x number [] = (r : Record) → IsFound x r → r.number ≡ number + 1 → ⊥
AreRecovered x number (r ∷ rs) = IsFound x r × (r.number ≡ number + 1) × AreRecovered x (number + 1) rs

-- a gate slot is whole in its file
pub record HasGate (c : FileBytes) (g : GateSlot) : Type 0 where
  pub there : StandsAt c (gate_at (gate_place g)) (gate_bytes g)
  pub sequence : g.sequence < 2 ^ 64
  pub number : g.number < 2 ^ 64
  pub commits : g.commits < 2 ^ 64

-- The gate: of the slots that are whole the one with the higher sequence.
pub record IsGate (c : FileBytes) (g : GateSlot) : Type 0 where
  pub whole : HasGate c g
  pub newest : (h : GateSlot) → HasGate c h → h.sequence ≤ g.sequence
