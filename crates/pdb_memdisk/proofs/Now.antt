-- What a disk in memory has at the present moment.
use Rattle.std.proofs.Common.{◌≡◌, ℕ, List, [], ◌++◌, true, false, if◌then◌else◌, refl, ap, sym, ◌∙◌, arith}
use Rattle.std.specs.List.{list_any}
use Rattle.pdb_disk.specs.Files.{Files, Step}
use Rattle.pdb_memdisk.specs.Contents.{image_of, all_settled}
use Rattle.pdb_memdisk.specs.Record.{replayed}
use Rattle.pdb_memdisk.specs.Images.{syncs, pending, steps_on}
use Rattle.pdb_memdisk.specs.Memory.{now_of, pending_of}
use Rattle.pdb_memdisk.specs.declared.memory.MemDisk.{MemDisk}
use Rattle.pdb_memdisk.proofs.Pasts.{until_all}
use Rattle.pdb_memdisk.proofs.Kept.{pending_since}

-- all kept calls were made by now
pub now_all : (d : MemDisk) → now_of d ≡ replayed (all_settled (image_of d.base)) d.calls.items
now_all d = ap (replayed (all_settled (image_of d.base))) (until_all d.clock d.clock d.calls.items (omega arith) d.stamped)

pub pending_now : (d : MemDisk) (j : ℕ) → steps_on j (pending_of d) ≡ (now_of d j).since
pending_now d j =
    sym (pending_since (all_settled (image_of d.base)) d.calls.items j
    ∙ elim (list_any (syncs j) d.calls.items) as (λ b. (if◌then◌else◌ {A = List Step} b [] []) ++ steps_on j (pending d.calls.items) ≡ steps_on j (pending d.calls.items)) [ true ↦ refl | false ↦ refl ])
    ∙ sym (ap (λ (fs : Files). (fs j).since) (now_all d))
