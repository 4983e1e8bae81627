-- What creating makes of a disk.
use Rattle.std.specs.Prelude.{◌⊎◌, ◌==◌, ◌&&◌, nat_lt, ℕ, List, [], ◌∷◌, ◌++◌, replicate, if◌then◌else◌, unwrap_or}
use Rattle.pdb_cells.specs.Content.{Content}
use Rattle.pdb_cells.specs.Sizes.{head_file, size_of}
use Rattle.pdb_disk.specs.Files.{Files, Image, IsImage}
use Rattle.pdb_model.specs.Logs.{HasGate, gate_file}
use Rattle.pdb_model.specs.Recovery.{Laid, Row, TearClear}
use Rattle.pdb_model.specs.declared.gate_slot.GateSlot.{GateSlot}

-- the head cell of a column without keys: 1, base, bits, which are those of the base, and zeros
abbrev pub new_head : ℕ → List ℕ
new_head base = (1 ∷ base ∷ base ∷ []) ++ replicate 253 0

-- the cells of a database without keys: the two head cells, and zeros
abbrev pub new_cells : ℕ → Content
new_cells base file index =
    if (file == head_file) && nat_lt index 2 then new_head base else replicate (unwrap_or (size_of file) 0) 0

-- a database without keys, of no commits
abbrev pub new_row : ℕ → Row
new_row base = record { cells = new_cells base; commits = 0 }

-- no gate slot is whole
abbrev pub HasNoGate : Image → Type 0
HasNoGate x = (g : GateSlot) → HasGate (x gate_file) g → ⊥

-- Whatever a crash leaves while a database is made: there is none, or it has no keys.
abbrev pub IsNoneOrNew : ℕ → Files → Type 0
IsNoneOrNew base fs = (x : Image) → IsImage fs x → TearClear fs x → HasNoGate x ⊎ Laid x (new_row base)
