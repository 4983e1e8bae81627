-- Words for the functions inside this crate.
use denote.Bor.{Bor}
use Rattle.std.specs.Prelude.{◌≡◌, ℕ, ◌&&◌, Bool, Result, Ok, List, if◌then◌else◌, map}
use Rattle.std.specs.List.{list_any}
use Rattle.std.specs.declared.alloc.AllocError.{AllocError}
use Rattle.pdb_disk.specs.Files.{Files, Image, Step}
use Rattle.pdb_memdisk.specs.Contents.{image_of, changed}
use Rattle.pdb_memdisk.specs.Record.{step_of, played}
use Rattle.pdb_memdisk.specs.Images.{Placed, syncs}
use Rattle.pdb_memdisk.specs.declared.record.Call.{Call}
use Rattle.pdb_memdisk.specs.declared.record.Change.{Change}
use Rattle.pdb_memdisk.specs.declared.record.Action.{Action}
use Rattle.pdb_memdisk.specs.declared.record.Action.TheVariants.{Changes, Syncs}

-- the action makes this step
abbrev pub Makes : Action → Step → Type 0
Makes (Changes c) s = step_of c ≡ s
Makes Syncs s = ⊥

-- what all files read as after an action on one that was done
abbrev pub applied : Image → ℕ → Action → Image
applied x file (Changes c) = changed x file (step_of c)
applied x file Syncs = x

-- these files become those by the action, for which memory was found; it was done or failed
abbrev pub Does : ℕ → Result Action AllocError → Bool → Files → Files → Type 0
Does file action ok old new = (a : Action) × (action ≡ Ok a) × (new ≡ played old file a ok)

-- all files after a call, if it was done and one of the later calls synced its file
abbrev pub kept_step : Image → Call → List Call → Image
kept_step x c later = if list_any (syncs c.file) later && c.done then applied x c.file c.action else x

-- changes with their files, as steps
abbrev pub placed_all : List (ℕ × Bor Change) → List Placed
placed_all cs = map (λ c. (c.0, step_of c.1.now)) cs

-- what sets of files read as
abbrev pub seen_in : List (List (List ℕ)) → List Image
seen_in sets = map image_of sets
