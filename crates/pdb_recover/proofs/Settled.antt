-- Files that were synced, and what a crash leaves of them.
use Rattle.std.proofs.Common.{◌≡◌, inl, inr, ℕ, ◌*◌, ◌<◌, List, [], None, refl, sym, ◌∙◌, ap, subst, arith}
use Rattle.std.specs.Prelude.{Option, Some, IsSome, true, false, is_some}
use Rattle.std.specs.Option.{unwrap_or}
use Rattle.pdb_cells.specs.Sizes.{size_of}
use Rattle.pdb_cells.proofs.Sizes.{no_cells}
use Rattle.pdb_disk.specs.Files.{FileBytes, FileState, Files, Image, Step, Settles, AllSpare, IsFileImage, IsImage, reads_of}
use Rattle.pdb_model.specs.Recovery.{bytes_from, cells_of_files}
use Rattle.pdb_recover.specs.Recovering.{AreSettled, IsSynced, IsStoreFile}

-- a crash leaves what is kept where nothing was begun
pub kept_image : (s : FileState) (c : FileBytes) → s.since ≡ [] → IsFileImage s c → c ≡ s.kept
kept_image s c none image = λ i k. image k (subst (λ (ss : List Step). AllSpare ss k) (sym none) tt) i

-- of a settled file it leaves what is read
pub settled_image : (s : FileState) (c : FileBytes) → IsSynced s → IsFileImage s c → c ≡ s.read
settled_image s c is image = kept_image s c is.since image ∙ is.kept

pub settles_settled : (file : ℕ) (old new : Files) → Settles file old new → IsSynced (new file)
settles_settled file old new b = record { kept = b.kept ∙ sym b.read; since = b.since }

pub settled_same : (s t : FileState) → t ≡ s → IsSynced s → IsSynced t
settled_same s t e is = subst IsSynced (sym e) is

-- no file of the store has a higher number
pub none_past : (j : ℕ) → 65 < j → IsStoreFile j → ⊥
none_past j high (inl low) = omega (arith, high, low)
none_past j high (inr some) =
    let none : size_of j ≡ None = no_cells j (inr (inr high)) in
    let is : is_some (size_of j) ≡ true = some in
    let out : is_some (size_of j) ≡ false = ap is_some none in
    cc

-- cells stand in files of the store only
pub cells_settled : (fs : Files) (x : Image) → AreSettled fs → IsImage fs x → cells_of_files x ≡ cells_of_files (reads_of fs)
cells_settled fs x are image = λ k file index. cell file index (size_of file) refl k
  where
    cell : (file index : ℕ) (o : Option ℕ) → size_of file ≡ o → cells_of_files x file index ≡ cells_of_files (reads_of fs) file index
    cell file index None e =
        let none : unwrap_or (size_of file) 0 ≡ 0 = ap (λ o. unwrap_or o 0) e in
        ap (λ n. bytes_from (x file) (index * n) n) none ∙ sym (ap (λ n. bytes_from ((fs file).read) (index * n) n) none)
    cell file index (Some size) e =
        let some : IsSome (size_of file) = ap is_some e in
        let n : ℕ = unwrap_or (size_of file) 0 in
        ap (λ (c : FileBytes). bytes_from c (index * n) n) (settled_image (fs file) (x file) (are file (inr some)) (image file))
