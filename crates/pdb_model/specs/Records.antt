-- Records of the log: the cells that a commit puts, whole or not at all.
use Rattle.std.specs.Prelude.{◌≡◌, ◌<◌, ◌≤◌, ◌^◌, ℕ, List, ◌++◌, length, take, drop, replicate, codes, All}
use Rattle.std.specs.Int.{w16, w64, to_le_bytes}
use Rattle.std.specs.List.{flat_map}
use Rattle.pdb_cells.specs.Puts.{IsWholeCell, NoCellTwice}
use Rattle.pdb_cells.specs.declared.Put.{Put}
use Rattle.pdb_model.specs.Gates.{sealed}

-- the cells that a record puts; `commits` is the number of commits in all records up to and with this one
pub record Record : Type 0 where
  pub number : ℕ
  pub commits : ℕ
  pub puts : List Put

-- a put: its file in 2 bytes, its index in 8, the cell's bytes
abbrev pub put_bytes : Put → List ℕ
put_bytes p = to_le_bytes w16 p.name.file ++ (to_le_bytes w64 p.name.index ++ p.bytes)

abbrev pub body_bytes : List Put → List ℕ
body_bytes puts = flat_map put_bytes puts

-- a header of 48 bytes: `SDBR`, four zeros, four numbers of 8 bytes, the checksum of these 40 bytes
unfoldable pub header_bytes : ℕ → ℕ → ℕ → ℕ → List ℕ
header_bytes number commits body puts = sealed (codes "SDBR" ++ (replicate 4 0 ++ (to_le_bytes w64 number
    ++ (to_le_bytes w64 commits ++ (to_le_bytes w64 body ++ to_le_bytes w64 puts)))))

-- the header, the puts, and the checksum of both
unfoldable pub record_bytes : Record → List ℕ
record_bytes r = sealed (header_bytes r.number r.commits (length (body_bytes r.puts)) (length r.puts) ++ body_bytes r.puts)

-- the rules of a header: it has a number from 1 on, and its body is not too long
pub record IsHeader (number commits body puts : ℕ) : Type 0 where
  pub first : 1 ≤ number
  pub narrow_number : number < 2 ^ 64
  pub narrow_commits : commits < 2 ^ 64
  pub short : body ≤ 2 ^ 62
  pub narrow_puts : puts < 2 ^ 64

-- The rules of a record: those of its header, and whole cells of files with cells, none of them twice.
pub record IsRecord (r : Record) : Type 0 where
  pub header : IsHeader r.number r.commits (length (body_bytes r.puts)) (length r.puts)
  pub whole : All IsWholeCell r.puts
  pub once : NoCellTwice r.puts

-- these bytes have this record at a place, whole
pub record HasRecord (bytes : List ℕ) (at : ℕ) (r : Record) : Type 0 where
  pub is : IsRecord r
  pub rest : List ℕ
  pub there : drop at bytes ≡ record_bytes r ++ rest

-- The log ends at a place: no bytes are left, or the next 48, or all where there are fewer, are zeros.
abbrev pub IsEndOfLog : List ℕ → ℕ → Type 0
IsEndOfLog bytes at = All (λ b. b ≡ 0) (take 48 (drop at bytes))
