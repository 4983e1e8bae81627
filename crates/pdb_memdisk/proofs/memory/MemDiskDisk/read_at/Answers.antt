use Rattle.std.proofs.Common.{◌≡◌, ◌+◌, ap, ◌∙◌, sym, arith, List}
use Rattle.pdb_disk.specs.Files.{Image, reads_of}
use Rattle.pdb_memdisk.specs.Contents.{image_of, all_settled}
use Rattle.pdb_memdisk.specs.Record.{replayed, until}
use Rattle.pdb_memdisk.specs.declared.record.Call.{Call}
use Rattle.pdb_memdisk.proofs.Pasts.{until_all}
use Rattle.pdb_memdisk.proofs.memory.MemDiskDisk.read_at.Goals as goal

pub returns-clause-bytes : goal.returns-clause-bytes
returns-clause-bytes c i low =
    let d = c.args.self.now in
    let all : until d.clock d.calls.items ≡ d.calls.items = until_all d.clock d.clock d.calls.items (omega arith) d.stamped in
    let now : image_of d.files ≡ reads_of (replayed (all_settled (image_of d.base)) (until d.clock d.calls.items)) =
    d.tied ∙ sym (ap (λ (xs : List Call). reads_of (replayed (all_settled (image_of d.base)) xs)) all) in
    c.read.ensures i low ∙ ap (λ (x : Image). x c.args.file (c.args.at + i)) now
