-- What a crash leaves of a synced file.
use Rattle.std.proofs.Common.{◌≡◌, ◌∙◌, sym, subst, List}
use Rattle.pdb_disk.specs.Files.{FileBytes, FileState, Step, AllSpare, IsFileImage, IsSynced}

pub image_read : (s : FileState) (c : FileBytes) → IsSynced s → IsFileImage s c → c ≡ s.read
image_read s c is image = (λ i k. image k (subst (λ (ss : List Step). AllSpare ss k) (sym is.since) tt) i) ∙ is.kept
