-- Gate slots: which records are in the tables.
use Rattle.std.specs.Prelude.{◌≡◌, ℕ, ◌*◌, ◌%◌, ◌^◌, ◌<◌, List, [], ◌∷◌, ◌++◌, take, codes, replicate}
use Rattle.std.specs.Int.{w64, to_le_bytes}
use Rattle.pdb_model.specs.declared.gate_slot.GateSlot.{GateSlot}
use Rattle.sdb_blake2.specs.Blake2b.{H}

-- the checksum of bytes: the first 8 bytes of their hash
abbrev pub checksum : List ℕ → List ℕ
checksum bytes = take 8 (H bytes)

-- the bytes with their checksum
abbrev pub sealed : List ℕ → List ℕ
sealed bytes = bytes ++ checksum bytes

-- a gate slot: `SDBGATE1`, three numbers of 8 bytes, 24 zeros, the checksum of these 56 bytes
unfoldable pub gate_bytes : GateSlot → List ℕ
gate_bytes g = sealed (codes "SDBGATE1" ++ (to_le_bytes w64 g.sequence ++ (to_le_bytes w64 g.number
    ++ (to_le_bytes w64 g.commits ++ replicate 24 0))))

-- the place of a gate among the two
abbrev pub gate_place : GateSlot → ℕ
gate_place g = g.sequence % 2

-- where that place begins in the file
abbrev pub gate_at : ℕ → ℕ
gate_at place = 4096 * place

-- these bytes at this place are this gate, whole
pub record IsGateSlot (bytes : List ℕ) (place : ℕ) (g : GateSlot) : Type 0 where
  pub spelled : bytes ≡ gate_bytes g
  pub here : place ≡ gate_place g
  pub sequence : g.sequence < 2 ^ 64
  pub number : g.number < 2 ^ 64
  pub commits : g.commits < 2 ^ 64
