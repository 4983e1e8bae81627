-- What each step of creating makes of the files.
use Rattle.std.specs.Prelude.{◌≡◌, ◌≢◌, ◌⊎◌, ◌<◌, ℕ, List, []}
use Rattle.pdb_cells.specs.Sizes.{head_file}
use Rattle.pdb_disk.specs.Files.{FileBytes, FileState, Files, IsFileImage, done}
use Rattle.pdb_disk.specs.Files.{Step as step}
use Rattle.pdb_log.specs.Ledger.{IsEmptyFile}
use Rattle.pdb_log.specs.Recovered.{IsStoreFile}
use Rattle.pdb_model.specs.Gates.{gate_at, gate_bytes, gate_place}
use Rattle.pdb_model.specs.Logs.{HasGate, gate_file}
use Rattle.pdb_model.specs.Recovery.{StoodThere}
use Rattle.pdb_model.specs.declared.gate_slot.GateSlot.{GateSlot}
use Rattle.pdb_redo.specs.Creating.{new_head}

-- the gate of a database without commits
abbrev pub first_gate : GateSlot
first_gate = record { sequence = 0; number = 0; commits = 0 }

-- whatever a crash leaves of the gate's file, no slot is whole
abbrev pub NeverHasGate : Files → Type 0
NeverHasGate fs = (c : FileBytes) → IsFileImage (fs gate_file) c → (g : GateSlot) → HasGate c g → ⊥

-- the same where no torn bytes pass for whole ones
abbrev pub HasNoGateYet : Files → Type 0
HasNoGateYet fs = (c : FileBytes) → IsFileImage (fs gate_file) c
    → ((g : GateSlot) → HasGate c g → StoodThere (fs gate_file) (gate_at (gate_place g)) (gate_bytes g))
    → (g : GateSlot) → HasGate c g → ⊥

-- a file was emptied, and no other changed
pub record IsEmptied (file : ℕ) (old new : Files) : Type 0 where
  pub others : (j : ℕ) → j ≢ file → new j ≡ old j
  pub empty : IsEmptyFile (new file)

-- a file was emptied, or it is none of the store and nothing changed
abbrev pub IsEmptiedIfStored : ℕ → Files → Files → Type 0
IsEmptiedIfStored file old new = IsEmptied file old new ⊎ ((IsStoreFile file → ⊥) × (new ≡ old))

-- each file of the store below a number is empty
abbrev pub AreEmpty : ℕ → Files → Type 0
AreEmpty n fs = (j : ℕ) → IsStoreFile j → j < n → IsEmptyFile (fs j)

-- a file of two head cells
abbrev pub heads_bytes : List ℕ → FileBytes
heads_bytes head = done (done (λ i. 0) (step.Write 0 head)) (step.Write 256 head)

-- the head cells stand in their file, all of it synced
pub record HaveHeads (head : List ℕ) (s : FileState) : Type 0 where
  pub read : s.read ≡ heads_bytes head
  pub kept : s.kept ≡ heads_bytes head
  pub since : s.since ≡ []

-- both head cells were written, and no other file changed
pub record AreHeaded (head : List ℕ) (old new : Files) : Type 0 where
  pub others : (j : ℕ) → j ≢ head_file → new j ≡ old j
  pub heads : HaveHeads head (new head_file)

-- the files of a database without keys but for its gate
pub record AreUngated (base : ℕ) (fs : Files) : Type 0 where
  pub empty : (j : ℕ) → IsStoreFile j → j ≢ head_file → IsEmptyFile (fs j)
  pub heads : HaveHeads (new_head base) (fs head_file)
