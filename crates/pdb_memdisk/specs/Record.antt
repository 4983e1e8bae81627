-- What a record of calls comes to.
use Rattle.std.specs.Prelude.{ℕ, ◌==◌, nat_le, Bool, List, [], ◌∷◌, ◌++◌, if◌then◌else◌}
use Rattle.std.specs.List.{filter}
use Rattle.pdb_disk.specs.Files.{FileState, Files, Step, done, settled}
use Rattle.pdb_disk.specs.Files.{Step as step}
use Rattle.pdb_memdisk.specs.declared.record.Call.{Call}
use Rattle.pdb_memdisk.specs.declared.record.Action.{Action}
use Rattle.pdb_memdisk.specs.declared.record.Action.TheVariants.{Changes, Syncs}
use Rattle.pdb_memdisk.specs.declared.record.Change.{Change}
use Rattle.pdb_memdisk.specs.declared.record.Change.TheVariants.{Write, Cut}

-- a change as a step of its file
abbrev pub step_of : Change → Step
step_of (Write at bytes) = step.Write at bytes.items
step_of Cut = step.Cut

-- a file after a step that was begun, and maybe done
abbrev pub begun : FileState → Step → Bool → FileState
begun f s ok = record {
  read = if ok then done f.read s else f.read;
  kept = f.kept;
  since = f.since ++ s ∷ [];
}

-- A file after a call of it. A change that failed is pending; a sync that failed changes nothing.
abbrev pub acted : FileState → Action → Bool → FileState
acted f (Changes c) ok = begun f (step_of c) ok
acted f Syncs ok = if ok then settled f.read else f

-- all files after a call of one
abbrev pub played : Files → ℕ → Action → Bool → Files
played fs file a ok = λ j. if j == file then acted (fs j) a ok else fs j

-- all files after the calls in their order
abbrev pub replayed : Files → List Call → Files
replayed fs [] = fs
replayed fs (c ∷ cs) = replayed (played fs c.file c.action c.done) cs

-- the calls with a stamp of at most t
abbrev pub until : ℕ → List Call → List Call
until t cs = filter (λ c. nat_le c.stamp t) cs
