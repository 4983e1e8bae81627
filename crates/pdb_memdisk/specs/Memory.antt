-- What a contract sees of a disk in memory.
use Rattle.std.specs.Prelude.{◌≡◌, ◌≤◌, ◌⊎◌, ◌-◌, ◌^◌, ◌↔◌, ℕ, List, [], IsTrue}
use Rattle.std.specs.List.{Contains}
use Rattle.pdb_disk.specs.Files.{Files, Image, reads_of}
use Rattle.pdb_memdisk.specs.Contents.{image_of, all_settled}
use Rattle.pdb_memdisk.specs.Record.{replayed, until}
use Rattle.pdb_memdisk.specs.Images.{Placed, pending}
use Rattle.pdb_memdisk.specs.declared.memory.MemDisk.{MemDisk}

-- how many writes, cuts and syncs there were
abbrev pub clock_of : MemDisk → ℕ
clock_of d = d.clock

-- how many reads there were
abbrev pub reads_by : MemDisk → ℕ
reads_by d = d.reads

-- how many calls failed
abbrev pub failed_by : MemDisk → ℕ
failed_by d = d.faults

-- the files at a moment: those at first, after the calls up to it
abbrev pub past_of : MemDisk → ℕ → Files
past_of d t = replayed (all_settled (image_of d.base)) (until t d.calls.items)

abbrev pub now_of : MemDisk → Files
now_of d = past_of d (clock_of d)

-- what every file reads as
abbrev pub image_now : MemDisk → Image
image_now d = reads_of (now_of d)

-- the steps since the last sync of their file, in order of calls
abbrev pub pending_of : MemDisk → List Placed
pending_of d = pending d.calls.items

-- how many calls there were that can fail: reads, writes, cuts and syncs
abbrev pub tried_by : MemDisk → ℕ
tried_by d = d.tried

-- those of them that are to fail, by their numbers from 0
abbrev pub to_fail : MemDisk → List ℕ
to_fail d = d.failing.items

-- the number from which on all of them are to fail
abbrev pub fuse_of : MemDisk → ℕ
fuse_of d = d.fuse

-- the next call is to fail
abbrev pub IsToFail : MemDisk → Type 0
IsToFail d = Contains (to_fail d) (tried_by d) ⊎ (fuse_of d ≤ tried_by d)

-- memory was found for every call so far
abbrev pub IsComplete : MemDisk → Type 0
IsComplete d = IsTrue d.complete

-- no call was made yet, none is to fail, and all files are synced
pub record IsFresh (d : MemDisk) : Type 0 where
  pub clock : clock_of d ≡ 0
  pub reads : reads_by d ≡ 0
  pub faults : failed_by d ≡ 0
  pub tried : tried_by d ≡ 0
  pub steady : to_fail d ≡ []
  pub unfused : fuse_of d ≡ 2 ^ 64 - 1
  pub complete : IsComplete d
  pub synced : now_of d ≡ all_settled (image_now d)

-- what is to fail is as before
pub record SamePlan (old new : MemDisk) : Type 0 where
  pub to_fail : new.failing.items ≡ old.failing.items
  pub fuse : new.fuse ≡ old.fuse

-- clock, counts and files at every moment are as before
pub record SameState (old new : MemDisk) : Type 0 where
  pub past : past_of new ≡ past_of old
  pub clock : clock_of new ≡ clock_of old
  pub reads : reads_by new ≡ reads_by old
  pub faults : failed_by new ≡ failed_by old
  pub tried : tried_by new ≡ tried_by old
  pub complete : IsComplete new ↔ IsComplete old

-- every file reads as before
abbrev pub SameReads : Files → Files → Type 0
SameReads old new = reads_of new ≡ reads_of old
