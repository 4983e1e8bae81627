-- What is read at each moment is what a crash may leave: the proof of the disk's own law.
use Rattle.std.proofs.Common.{◌==◌, Bool, true, false, List, [], ◌∷◌, if◌then◌else◌, refl, ◌∙◌}
use Rattle.pdb_disk.specs.Files.{FileState, Files, Image, Step, IsFileImage, IsImage, reads_of}
use Rattle.pdb_disk.proofs.Images.{done_spared, spared_last}
use Rattle.pdb_memdisk.specs.Contents.{all_settled}
use Rattle.pdb_memdisk.specs.Record.{step_of, begun, acted, played, replayed}
use Rattle.pdb_memdisk.specs.declared.record.Call.{Call}
use Rattle.pdb_memdisk.specs.declared.record.Action.{Action}
use Rattle.pdb_memdisk.specs.declared.record.Action.TheVariants.{Changes, Syncs}

begun_image : (f : FileState) (s : Step) (ok : Bool) → IsFileImage f f.read → IsFileImage (begun f s ok) (begun f s ok).read
begun_image f s true h = λ i sp. let both = spared_last f.since s i sp in done_spared f.read s i both.1 ∙ h i both.0
begun_image f s false h = λ i sp. h i (spared_last f.since s i sp).0

acted_image : (f : FileState) (a : Action) (ok : Bool) → IsFileImage f f.read → IsFileImage (acted f a ok) (acted f a ok).read
acted_image f (Changes s) ok h = begun_image f (step_of s) ok h
acted_image f Syncs true h = λ i sp. refl
acted_image f Syncs false h = h

pub replayed_image : (fs : Files) (cs : List Call) → IsImage fs (reads_of fs) → IsImage (replayed fs cs) (reads_of (replayed fs cs))
replayed_image fs [] h = h
replayed_image fs (c ∷ cs) h = replayed_image (played fs c.file c.action c.done) cs
    (λ j. elim (j == c.file) as (λ b. IsFileImage (if b then acted (fs j) c.action c.done else fs j) (if b then acted (fs j) c.action c.done else fs j).read) [ true ↦ acted_image (fs j) c.action c.done (h j) | false ↦ h j ])

pub settled_image : (x : Image) → IsImage (all_settled x) (reads_of (all_settled x))
settled_image x j i sp = refl
