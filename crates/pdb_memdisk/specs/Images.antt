-- Which images of a disk in memory are listed.
use Rattle.std.specs.Prelude.{ℕ, ◌/◌, ◌==◌, ◌&&◌, Bool, true, false, Some, None, List, [], ◌∷◌, ◌++◌, if◌then◌else◌, map, length, take}
use Rattle.std.specs.List.{list_any, filter_map}
use Rattle.pdb_disk.specs.Files.{Files, Image, Step}
use Rattle.pdb_disk.specs.Files.{Step as step}
use Rattle.pdb_memdisk.specs.Contents.{changed}
use Rattle.pdb_memdisk.specs.Record.{step_of}
use Rattle.pdb_memdisk.specs.declared.record.Call.{Call}
use Rattle.pdb_memdisk.specs.declared.record.Action.{Action}
use Rattle.pdb_memdisk.specs.declared.record.Action.TheVariants.{Changes, Syncs}

-- a step and the file that it is on
abbrev pub Placed : Type 0
Placed = ℕ × Step

abbrev pub is_sync : Action → Bool
is_sync Syncs = true
is_sync (Changes c) = false

-- the call synced this file
abbrev pub syncs : ℕ → Call → Bool
syncs file c = (file == c.file) && (c.done && is_sync c.action)

-- the step of a call, unless it was a sync
abbrev pub placed_change : ℕ → Action → List Placed
placed_change file (Changes s) = (file, step_of s) ∷ []
placed_change file Syncs = []

-- the steps whose file wasn't synced after them, in order of calls
abbrev pub pending : List Call → List Placed
pending [] = []
pending (c ∷ cs) = (if list_any (syncs c.file) cs then [] else placed_change c.file c.action) ++ pending cs

-- the steps on one file
abbrev pub steps_on : ℕ → List Placed → List Step
steps_on j ps = filter_map (λ p. if j == p.0 then Some p.1 else None) ps

-- all files after these steps
abbrev pub image_after : Image → List Placed → Image
image_after x [] = x
image_after x (p ∷ ps) = image_after (changed x p.0 p.1) ps

-- the first half of a write's bytes, rounded down; of a cut there is no half
abbrev pub half : Placed → List Placed
half (j, step.Write at bytes) = (j, step.Write at (take (length bytes / 2) bytes)) ∷ []
half (j, step.Cut) = []

-- for each n the first n of them
abbrev pub first_n : List Placed → List (List Placed)
first_n [] = [] ∷ []
first_n (p ∷ ps) = [] ∷ map (λ qs. p ∷ qs) (first_n ps)

-- for each n, where the next one is a write, the first n of them and half of that one
abbrev pub first_n_and_half : List Placed → List (List Placed)
first_n_and_half [] = []
first_n_and_half (p ∷ ps) = map (λ q. q ∷ []) (half p) ++ map (λ qs. p ∷ qs) (first_n_and_half ps)

-- for each n all of them but the n-th
abbrev pub all_but_one : List Placed → List (List Placed)
all_but_one [] = []
all_but_one (p ∷ ps) = ps ∷ map (λ qs. p ∷ qs) (all_but_one ps)

-- the images that are listed, of files that were kept and the steps since
abbrev pub listed : Image → List Placed → List Image
listed x ps = map (image_after x) (first_n ps) ++ (map (image_after x) (first_n_and_half ps) ++ map (image_after x) (all_but_one ps))

-- what all files kept
abbrev pub keeps_of : Files → Image
keeps_of fs = λ j. (fs j).kept
