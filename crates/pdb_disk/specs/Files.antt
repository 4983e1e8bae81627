-- What a disk of numbered files holds, what its calls change, and what a crash may leave of it.
use Rattle.std.specs.Prelude.{◌≡◌, ◌≢◌, ◌⊎◌, ℕ, ◌+◌, ◌-◌, ◌<◌, ◌≤◌, nat_le, nat_lt, ◌&&◌, if◌then◌else◌, List, [], ◌∷◌, ◌++◌, length, get_or, slice_index}
use Rattle.sdb_io.specs.Faults.{one_more}

-- the byte at each place of a file, zero past the last one that was written
abbrev pub FileBytes : Type 0
FileBytes = ℕ → ℕ

-- a write of these bytes at this place, or a cut of the whole file
pub data Step : Type 0 where
  Write : ℕ → List ℕ → Step
  Cut : Step

-- what a read gives, what it gave at the last sync that succeeded, and the writes and cuts begun after that
pub record FileState : Type 0 where
  pub read : FileBytes
  pub kept : FileBytes
  pub since : List Step

-- each file by its number
abbrev pub Files : Type 0
Files = ℕ → FileState

-- each file's bytes as a crash leaves them
abbrev pub Image : Type 0
Image = ℕ → FileBytes

-- a file that was synced after its last write and cut
abbrev pub settled : FileBytes → FileState
settled c = record { read = c; kept = c; since = [] }

-- a file was synced after its last write and cut
pub record IsSynced (s : FileState) : Type 0 where
  pub kept : s.kept ≡ s.read
  pub since : s.since ≡ []

-- the step doesn't cover this place: it lies beside the written bytes, and a cut covers all places
abbrev pub Spares : Step → ℕ → Type 0
Spares (Write at bytes) i = (i < at) ⊎ (at + length bytes ≤ i)
Spares Cut i = ⊥

abbrev pub AllSpare : List Step → ℕ → Type 0
AllSpare [] i = Unit {0}
AllSpare (s ∷ ss) i = Spares s i × AllSpare ss i

-- a file after a step that was done whole
abbrev pub done : FileBytes → Step → FileBytes
done c (Write at bytes) = λ i. if nat_le at i && nat_lt i (at + length bytes) then get_or bytes (i - at) 0 else c i
done c Cut = λ i. 0

-- what every file reads as
abbrev pub reads_of : Files → Image
reads_of fs = λ j. (fs j).read

-- A crash may leave this of a file: any bytes where a step since the last sync covers, and the kept ones elsewhere.
abbrev pub IsFileImage : FileState → FileBytes → Type 0
IsFileImage s c = (i : ℕ) → AllSpare s.since i → c i ≡ s.kept i

-- a crash may leave these files
abbrev pub IsImage : Files → Image → Type 0
IsImage fs x = (j : ℕ) → IsFileImage (fs j) (x j)

-- these bytes stand in the file from this place on
abbrev pub StandsAt : FileBytes → ℕ → List ℕ → Type 0
StandsAt c at bytes = (i : ℕ) → i < length bytes → slice_index bytes i ≡ c (at + i)

-- The clock rises by one, but not past its last value, and each moment up to the earlier clock has the files that
-- it had. So a call at the last value changes no file at all.
pub record Elapses (before now : ℕ) (past since : ℕ → Files) : Type 0 where
  pub one : now ≡ one_more before
  pub later : before ≤ now
  pub earlier : (t : ℕ) → t ≤ before → since t ≡ past t

-- A step was begun on this file: it may be done, in part or not at all, so in its range a read gives any bytes.
pub record Begins (file : ℕ) (step : Step) (old new : Files) : Type 0 where
  pub others : (j : ℕ) → j ≢ file → new j ≡ old j
  pub kept : (new file).kept ≡ (old file).kept
  pub since : (new file).since ≡ (old file).since ++ step ∷ []
  pub spared : (i : ℕ) → Spares step i → (new file).read i ≡ (old file).read i

-- A step that failed was begun, or nothing changed: at the clock's last value no step is begun, and a disk in memory
-- that finds no room to keep a step doesn't begin it either.
abbrev pub MayBegin : ℕ → Step → Files → Files → Type 0
MayBegin file step old new = Begins file step old new ⊎ (new ≡ old)

-- this file was synced
pub record Settles (file : ℕ) (old new : Files) : Type 0 where
  pub others : (j : ℕ) → j ≢ file → new j ≡ old j
  pub read : (new file).read ≡ (old file).read
  pub kept : (new file).kept ≡ (old file).read
  pub since : (new file).since ≡ []
